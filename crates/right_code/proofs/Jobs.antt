-- The steps of jobs' covers leave what the jobs leave.
use Rattle.std.proofs.Common.{ℕ, zero, suc, ◌≡◌, ◌≤◌, ◌<◌, true, List, [], ◌∷◌, Option, length, inl, inr, Some, refl, sym, ◌∙◌, ap, arith, subst, slice_get, slice_index, slice_set}
use Rattle.std.proofs.lemmas.Bool.{cases_eq}
use Rattle.std.proofs.lemmas.List.{get_or-set_same, get_or-set_other, length-set}
use Rattle.rec_bits.proofs.Options.{same_Some}
use Rattle.net_model.specs.declared.states.State.{State}
use Rattle.net_model.specs.Exprs.{ExprModel}
use Rattle.net_model.specs.Meaning.{mean}
use Rattle.net_model.specs.Patterns.{Pattern}
use Rattle.form_model.specs.Trees.{is_tree}
use Rattle.form_model.specs.Forms.{DestinationModel, into, cell, filed, stored, temporary, tested}
use Rattle.form_model.specs.Covers.{StockModel, JobCoverModel}
use Rattle.form_model.specs.CoverModels.{CoverModel}
use Rattle.form_model.specs.Effects.{operation_of, steps_effect}
use Rattle.form_model.specs.Steps.{cover_steps}
use Rattle.emit_seq.specs.Formed.{AreFormed}
use Rattle.emit_seq.specs.Leaves.{IsCoverStart, IsOfJob, IsAimWithin, DestinationReads, LeaveValue}
use Rattle.emit_seq.proofs.Leaving.{leave_value}
use Rattle.emit_seq.proofs.Walks.{effect-steps}
use Rattle.src_trees.specs.Lowered.{JobModel}
use Rattle.src_trees.specs.Seen.{tree_value, ReadsCells}
use Rattle.src_trees.specs.Doing.{job_value, put_at, done, all_done, AllRead, DestinationLies, Lies, AllLie}
use Rattle.src_trees.proofs.Behind.{Alike, all_done_behind, all_lie_behind}
use Rattle.right_code.specs.Jobs.{tree_or_none, tree_used, job_steps, jobs_steps, AreTrees, IsOne, HasOne, IsTreeDestination, IsCovered}
use Rattle.right_code.specs.Inner.Jobs.{AreCovered, LeavesDone}
use Rattle.right_code.proofs.Meant.{tree_mean, tree_reads, same_behind}

-- the tree that is used is a tree of the job
pub used_tree : (trees : List ExprModel) (k : ℕ) (t : ExprModel) → AreTrees trees → slice_get trees k ≡ Some t → is_tree t ≡ true
used_tree [] k t a e = absurd (cc e)
used_tree (x ∷ trees) zero t a e = subst (λ y. is_tree y ≡ true) (same_Some x t e) a.0
used_tree (x ∷ trees) (suc k) t a e = used_tree trees k t a.1 e

pub used_reads : (at : ℕ) (cells : List ℕ) (trees : List ExprModel) (k : ℕ) (t : ExprModel) → AllRead at cells trees → slice_get trees k ≡ Some t → ReadsCells at cells t
used_reads at cells [] k t a e = absurd (cc e)
used_reads at cells (x ∷ trees) zero t a e = subst (ReadsCells at cells) (same_Some x t e) a.0
used_reads at cells (x ∷ trees) (suc k) t a e = used_reads at cells trees k t a.1 e

-- what a job's cells ask, its steps' state gives
pub start_at : (stock : StockModel) (count : ℕ) (job : JobModel) (choice : JobCoverModel) (s : State) (c : IsCovered stock job choice) → length s.regs ≡ count → stock.file ≤ length s.file → Lies stock.temps s.cells job → IsCoverStart stock count job.destination c.covers.tree s
start_at stock count job choice s c n f l = record {
  regs = n;
  reads = tree_reads stock.temps c.covers.tree s (used_tree job.trees choice.which c.covers.tree c.trees c.covers.used) (used_reads stock.temps s.cells job.trees choice.which c.covers.tree l.reads c.covers.used);
  aim_reads = aim_reads job.destination c.destination l.destination;
  aim = aim_within job.destination c.destination l.destination;
  temps = l.below;
  file = f;
}
  where
    aim_reads : (destination : DestinationModel) → IsTreeDestination destination → DestinationLies stock.temps s.cells destination → DestinationReads stock.temps s destination
    aim_reads (cell a) t h = tt
    aim_reads (stored a) t h = tree_reads stock.temps a s t h.0
    aim_reads (into id) t h = tt
    aim_reads filed t h = tt
    aim_reads temporary t h = tt
    aim_reads tested t h = tt

    aim_within : (destination : DestinationModel) → IsTreeDestination destination → DestinationLies stock.temps s.cells destination → IsAimWithin destination s
    aim_within (cell a) t h = h.1
    aim_within (stored a) t h = let e = tree_mean a s t in let b = h.2 in omega (arith, e, b)
    aim_within (into id) t h = tt
    aim_within filed t h = tt
    aim_within temporary t h = tt
    aim_within tested t h = tt

-- cells with a value at one destination, and otherwise the same from an address on
put_same : (at a b v w : ℕ) (xs ys : List ℕ) → length ys ≡ length xs → b ≡ a → v ≡ w → a < length xs → slice_index ys b ≡ v → ((c : ℕ) → at ≤ c → (c ≡ b → ⊥) → slice_index ys c ≡ slice_index xs c)
    → Alike at (slice_set xs a w) ys
put_same at a b v w xs ys n e f lt put others = record {
  same = same_behind at (slice_set xs a w) ys (length-set xs a w ∙ sym n) each;
  long = length-set xs a w ∙ sym n;
}
  where
    each : (c : ℕ) → at ≤ c → slice_index (slice_set xs a w) c ≡ slice_index ys c
    each c le = elim (cases_eq c a) as (λ _. slice_index (slice_set xs a w) c ≡ slice_index ys c) [
      | inl k ↦ ap (slice_index (slice_set xs a w)) k ∙ get_or-set_same xs a w 0 lt ∙ sym f ∙ sym put ∙ ap (slice_index ys) (e ∙ sym k)
      | inr k ↦ get_or-set_other xs a c w 0 k ∙ sym (others c le (λ z. k (z ∙ e)))
    ]

module _ (stock : StockModel) (file : Option ℕ) (patterns : List Pattern) (count : ℕ) (formed : AreFormed file patterns count stock.file stock.forms) where
  -- what a job that stores something needs
  abbrev Needs : DestinationModel → Type 0 → Type 0
  Needs tested x = Unit {0}
  Needs destination x = x

  given : (destination : DestinationModel) (trees : List ExprModel) (x : Type 0) → IsOfJob destination → HasOne destination trees → (IsOne trees → x) → Needs destination x
  given (cell a) trees x j o f = f o
  given (stored a) trees x j o f = f o
  given tested trees x j o f = tt
  given (into id) trees x j o f = absurd j
  given filed trees x j o f = absurd j
  given temporary trees x j o f = absurd j

  -- a job's steps, where the job's value is that of this tree
  left : (destination : DestinationModel) (tree : ExprModel) (cover : CoverModel) (v : ℕ) (s : State) → IsOfJob destination → IsTreeDestination destination → DestinationLies stock.temps s.cells destination → LeaveValue stock file patterns destination tree cover s → Needs destination (mean tree s 0 ≡ v)
      → Alike stock.temps (put_at destination v s.cells) (steps_effect (operation_of file patterns) (cover_steps stock destination tree cover) s).cells
  left (cell a) tree cover v s j t l h e = put_same stock.temps a a (mean tree s 0) v s.cells _ h.cells refl e l.1 h.value h.others
  left (stored a) tree cover v s j t l h e =
      put_same stock.temps (tree_value s.cells a) (mean a s 0) (mean tree s 0) v s.cells _ h.cells (tree_mean a s t) e l.2 h.value h.others
  left tested tree cover v s j t l h e = record { same = sym (same_behind stock.temps _ s.cells h.cells (λ c b. h.others c b (λ z. z))); long = sym h.cells }
  left (into id) tree cover v s j t l h e = absurd j
  left filed tree cover v s j t l h e = absurd j
  left temporary tree cover v s j t l h e = absurd j

  pub leaves : (job : JobModel) (choice : JobCoverModel) (s : State) (c : IsCovered stock job choice) → length s.regs ≡ count → stock.file ≤ length s.file → Lies stock.temps s.cells job
      → LeaveValue stock file patterns job.destination c.covers.tree choice.cover s
  leaves job choice s c n f l = leave_value stock file patterns count formed job.destination c.covers.tree choice.cover s c.goes c.covers.orderly c.covers.enough c.few (start_at stock count job choice s c n f l)

  used_is : (job : JobModel) (choice : JobCoverModel) (c : IsCovered stock job choice) → tree_used job choice ≡ c.covers.tree
  used_is job choice c = ap tree_or_none c.covers.used

  value_is : (cells : List ℕ) (trees : List ExprModel) (k : ℕ) (t : ExprModel) → IsOne trees → slice_get trees k ≡ Some t → tree_value cells t ≡ job_value cells trees
  value_is cells trees k t o e = subst (λ ts. slice_get ts k ≡ Some t → tree_value cells t ≡ job_value cells ts) (sym o.1) (by k) e
    where
      by : (k : ℕ) → slice_get (o.0 ∷ []) k ≡ Some t → tree_value cells t ≡ tree_value cells o.0
      by zero e = cc
      by (suc k) e = absurd (cc e)

  pub job_left : (job : JobModel) (choice : JobCoverModel) (s : State) → IsCovered stock job choice → HasOne job.destination job.trees → length s.regs ≡ count → stock.file ≤ length s.file → Lies stock.temps s.cells job
      → LeavesDone stock.temps (job ∷ []) s (steps_effect (operation_of file patterns) (job_steps stock job choice) s)
  job_left job choice s c o n f l =
      let h : LeaveValue stock file patterns job.destination c.covers.tree choice.cover s = leaves job choice s c n f l in
      let t : is_tree c.covers.tree ≡ true = used_tree job.trees choice.which c.covers.tree c.trees c.covers.used in
      let a : Alike stock.temps (done job s.cells) (steps_effect (operation_of file patterns) (cover_steps stock job.destination c.covers.tree choice.cover) s).cells =
      left job.destination c.covers.tree choice.cover (job_value s.cells job.trees) s c.goes c.destination l.destination h
      (given job.destination job.trees _ c.goes o (λ z. tree_mean c.covers.tree s t ∙ value_is s.cells job.trees choice.which c.covers.tree z c.covers.used)) in
      subst (λ x. LeavesDone stock.temps (job ∷ []) s (steps_effect (operation_of file patterns) (cover_steps stock job.destination x choice.cover) s)) (sym (used_is job choice c))
      (record { same = a.same; long = a.long; regs = h.regs; file = h.file })

  pub jobs_left : (jobs : List JobModel) (choices : List JobCoverModel) (s : State) → AreCovered stock jobs choices → length s.regs ≡ count → stock.file ≤ length s.file → AllLie stock.temps s.cells jobs
      → LeavesDone stock.temps jobs s (steps_effect (operation_of file patterns) (jobs_steps stock jobs choices) s)
  jobs_left [] [] s c n f l = record { same = refl; long = refl; regs = refl; file = refl }
  jobs_left [] (choice ∷ choices) s c n f l = absurd c
  jobs_left (job ∷ jobs) [] s c n f l = absurd c
  jobs_left (job ∷ jobs) (choice ∷ choices) s c n f l =
      let u : State = steps_effect (operation_of file patterns) (job_steps stock job choice) s in
      let one : LeavesDone stock.temps (job ∷ []) s u = job_left job choice s c.0 c.1 n f l.0 in
      let a : Alike stock.temps (done job s.cells) u.cells = record { same = one.same; long = one.long } in
      let b : Alike stock.temps (all_done jobs (done job s.cells)) (all_done jobs u.cells) = all_done_behind stock.temps (done job s.cells) u.cells jobs a l.1 in
      let r : LeavesDone stock.temps jobs u (steps_effect (operation_of file patterns) (jobs_steps stock jobs choices) u) =
      jobs_left jobs choices u c.2 (one.regs ∙ n) (subst (λ k. stock.file ≤ k) (sym one.file) f) (all_lie_behind stock.temps (done job s.cells) u.cells jobs a l.1) in
      subst (LeavesDone stock.temps (job ∷ jobs) s) (sym (effect-steps (operation_of file patterns) (job_steps stock job choice) (jobs_steps stock jobs choices) s))
      (record { same = b.same ∙ r.same; long = b.long ∙ r.long; regs = r.regs ∙ one.regs; file = r.file ∙ one.file })
