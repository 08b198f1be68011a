-- Jobs don't see the cells below those that they read: what differs there changes nothing behind.
use Rattle.std.proofs.Common.{ℕ, ◌≡◌, ◌≤◌, ◌+◌, ◌-◌, ◌==◌, if◌then◌else◌, List, [], ◌∷◌, length, drop, refl, sym, ◌∙◌, ap, arith, slice_index, slice_set}
use Rattle.std.proofs.lemmas.List.{length-set}
use Rattle.rec_bits.specs.Operators.{apply1_of, apply2_of, slice_of, cat_of, sext_of as extended_of}
use Rattle.rec_bits.proofs.Lists.{cell_behind, drop-set}
use Rattle.net_model.specs.declared.hardware.Space.TheVariants.{Memory as InMemory, File as InFile}
use Rattle.net_model.specs.Exprs.{ExprModel, word, reg, const, read, un, bin, slice, cat, zext, sext, select, expr_width}
use Rattle.form_model.specs.Forms.{DestinationModel, into, cell, filed, stored, temporary, tested}
use Rattle.src_trees.specs.Lowered.{JobModel}
use Rattle.src_trees.specs.Seen.{tree_value, ReadsCells}
use Rattle.src_trees.specs.Doing.{job_value, put_at, done, all_done, AllRead, DestinationLies, Lies, AllLie}

-- two memories of one length that agree from an address on
pub record Alike (at : ℕ) (cells others : List ℕ) : Type 0 where
  pub same : drop at cells ≡ drop at others
  pub long : length cells ≡ length others

module _ (at : ℕ) (cells others : List ℕ) (alike : Alike at cells others) where
  pub value_behind : (t : ExprModel) → ReadsCells at cells t → tree_value cells t ≡ tree_value others t
  value_behind (word w) r = refl
  value_behind (reg n w) r = refl
  value_behind (const w v) r = refl
  value_behind (read InFile a w) r = absurd r
  value_behind (read InMemory a w) r = cell_behind at (tree_value cells a) cells others alike.same r.1 ∙ ap (slice_index others) (value_behind a r.0)
  value_behind (un o a) r = ap (apply1_of o (expr_width a)) (value_behind a r)
  value_behind (bin o a b) r = let p = value_behind a r.0 in let q = value_behind b r.1 in (λ j. apply2_of o (expr_width a) (p j) (q j))
  value_behind (slice a hi lo) r = ap (λ n. slice_of n hi lo) (value_behind a r)
  value_behind (cat a b) r = let p = value_behind a r.0 in let q = value_behind b r.1 in (λ j. cat_of (p j) (q j) (expr_width b))
  value_behind (zext a w) r = value_behind a r
  value_behind (sext a w) r = ap (λ n. extended_of n (expr_width a) w) (value_behind a r)
  value_behind (select c a b) r =
      let p = value_behind c r.0 in
      let q = value_behind a r.1 in
      let s = value_behind b r.2 in
      (λ j. if p j == 1 then q j else s j)

  pub reads_behind : (t : ExprModel) → ReadsCells at cells t → ReadsCells at others t
  reads_behind (word w) r = tt
  reads_behind (reg n w) r = tt
  reads_behind (const w v) r = tt
  reads_behind (read InFile a w) r = absurd r
  reads_behind (read InMemory a w) r = let v = value_behind a r.0 in (reads_behind a r.0, omega (arith, r.1, v))
  reads_behind (un o a) r = reads_behind a r
  reads_behind (bin o a b) r = (reads_behind a r.0, reads_behind b r.1)
  reads_behind (slice a hi lo) r = reads_behind a r
  reads_behind (cat a b) r = (reads_behind a r.0, reads_behind b r.1)
  reads_behind (zext a w) r = reads_behind a r
  reads_behind (sext a w) r = reads_behind a r
  reads_behind (select c a b) r = (reads_behind c r.0, reads_behind a r.1, reads_behind b r.2)

  all_read : (trees : List ExprModel) → AllRead at cells trees → AllRead at others trees
  all_read [] r = tt
  all_read (t ∷ trees) r = (reads_behind t r.0, all_read trees r.1)

  aim_lies : (destination : DestinationModel) → DestinationLies at cells destination → DestinationLies at others destination
  aim_lies (cell a) l = let e = alike.long in (l.0, omega (arith, l.1, e))
  aim_lies (stored t) l = let e = alike.long in let v = value_behind t l.0 in (reads_behind t l.0, omega (arith, l.1, v), omega (arith, l.2, v, e))
  aim_lies (into id) l = tt
  aim_lies temporary l = tt
  aim_lies filed l = tt
  aim_lies tested l = tt

  pub lies_behind : (job : JobModel) → Lies at cells job → Lies at others job
  lies_behind job l = let e = alike.long in let b = l.below in record { reads = all_read job.trees l.reads; destination = aim_lies job.destination l.destination; below = omega (arith, b, e) }

  job_behind : (trees : List ExprModel) → AllRead at cells trees → job_value cells trees ≡ job_value others trees
  job_behind [] r = refl
  job_behind (t ∷ trees) r = value_behind t r.0

set_alike : (at a b v w : ℕ) (cells others : List ℕ) → Alike at cells others → at ≤ a → a ≡ b → v ≡ w → Alike at (slice_set cells a v) (slice_set others b w)
set_alike at a b v w cells others k le e f =
    let z : a ≡ at + (a - at) = omega arith in
    record {
      same = drop-set at (a - at) a cells v z ∙ (λ j. slice_set (k.same j) (a - at) (f j)) ∙ sym (drop-set at (a - at) b others w (sym e ∙ z));
      long = length-set cells a v ∙ k.long ∙ sym (length-set others b w);
    }

-- a job keeps that
pub done_behind : (at : ℕ) (cells others : List ℕ) (job : JobModel) → Alike at cells others → Lies at cells job → Alike at (done job cells) (done job others)
done_behind at cells others job k l = by job.destination l.destination (job_behind at cells others k job.trees l.reads)
  where
    by : (destination : DestinationModel) → DestinationLies at cells destination → job_value cells job.trees ≡ job_value others job.trees → Alike at (put_at destination (job_value cells job.trees) cells) (put_at destination (job_value others job.trees) others)
    by (cell a) h v = set_alike at a a _ _ cells others k h.0 refl v
    by (stored t) h v = set_alike at (tree_value cells t) (tree_value others t) _ _ cells others k h.1 (value_behind at cells others k t h.0) v
    by (into id) h v = k
    by temporary h v = k
    by filed h v = k
    by tested h v = k

-- and so do jobs one after the other
pub all_done_behind : (at : ℕ) (cells others : List ℕ) (jobs : List JobModel) → Alike at cells others → AllLie at cells jobs → Alike at (all_done jobs cells) (all_done jobs others)
all_done_behind at cells others [] k l = k
all_done_behind at cells others (job ∷ later) k l = all_done_behind at (done job cells) (done job others) later (done_behind at cells others job k l.0) l.1

pub all_lie_behind : (at : ℕ) (cells others : List ℕ) (jobs : List JobModel) → Alike at cells others → AllLie at cells jobs → AllLie at others jobs
all_lie_behind at cells others [] k l = tt
all_lie_behind at cells others (job ∷ later) k l = (lies_behind at cells others k job l.0, all_lie_behind at (done job cells) (done job others) later (done_behind at cells others job k l.0) l.1)
