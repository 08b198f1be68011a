-- The jobs of two memories have the values of those of one.
use Rattle.std.proofs.Common.{◌≡◌, ℕ, ◌+◌, ◌-◌, ◌*◌, ◌/◌, ◌%◌, ◌^◌, ◌<◌, ◌≤◌, nat_lt, Bool, true, false, cond, List, [], ◌∷◌, map, length, slice_index, Some, refl, ap, sym, ◌∙◌, subst, arith, inl, inr, lit<}
use Rattle.std.proofs.lemmas.Bool.{cases_lt, ltb-true, ltb-false}
use Rattle.std.proofs.Math.Nat.{mod-eq_of_lt, mod-eq-sub-mod, div-one, pow-suc, pow-le-pow_right}
use Rattle.std.proofs.Math.Numerals.{add-one}
use Rattle.rec_bits.specs.Operators.{apply1_of, apply2_of, slice_of, cat_of, sext_of, result_width}
use Rattle.rec_bits.specs.declared.operator.Op2.TheVariants.{Add}
use Rattle.net_model.specs.declared.hardware.Space.TheVariants.{Memory as InMemory, File as InFile}
use Rattle.net_model.specs.Exprs.{ExprModel, word, reg, const, read, un, bin, slice, cat, zext, sext, select, expr_width}
use Rattle.form_model.specs.Forms.{DestinationModel, into, cell, filed, stored, temporary, tested}
use Rattle.src_trees.specs.Lowered.{JobModel}
use Rattle.src_trees.specs.Seen.{tree_value, ReadsCells}
use Rattle.src_trees.specs.Doing.{destination_cell, done, job_value, put_in, AllRead, AllAre, DestinationLies, Lies}
use Rattle.dual_bank.specs.Banked.{summed, banked_address, banked_tree, banked_destination, job_of_banked, IndexLies, AddressLies, IndexesLie, AllIndexesLie, DestinationIndexesLie, JobIndexesLie}

-- the low bits of a number are the number where it is below them
low_all : (a bits hi : ℕ) → hi + 1 ≡ bits → a < 2 ^ bits → slice_of a hi 0 ≡ a
low_all a bits hi e h =
    let q : hi + 1 - 0 ≡ bits = omega (arith, e) in
    ap (λ n. (a / 1) % 2 ^ n) q ∙ ap (λ x. x % 2 ^ bits) (div-one a) ∙ mod-eq_of_lt h

-- ---- an address

module _ (k v base : ℕ) (some : 1 ≤ k) (inside : v + base % 2 ^ k < 2 ^ k) (fits : base < 2 ^ (k + 1)) where
  twice : 2 ^ (k + 1) ≡ 2 ^ k * 2
  twice = ap (λ n. 2 ^ n) (add-one k) ∙ pow-suc 2 k

  below : base < 2 ^ k → base % 2 ^ k ≡ base
  below h = mod-eq_of_lt h

  above : 2 ^ k ≤ base → 2 ^ k + base % 2 ^ k ≡ base
  above h =
      let m : base % 2 ^ k ≡ (base - 2 ^ k) % 2 ^ k = mod-eq-sub-mod h in
      let s : base - 2 ^ k < 2 ^ k = omega (arith, twice, fits, h) in
      let t : (base - 2 ^ k) % 2 ^ k ≡ base - 2 ^ k = mod-eq_of_lt s in
      omega (arith, m, t, h)

  small : v + base < 2 ^ (k + 1)
  small = elim (cases_lt base (2 ^ k)) [
    | inl lt ↦ omega (arith, twice, inside, below lt)
    | inr ge ↦ omega (arith, twice, inside, above (omega (arith, ge)))
  ]

-- ---- trees

pub width_same : (k : ℕ) (t : ExprModel) → expr_width (banked_tree k t) ≡ expr_width t
width_same k (word w) = refl
width_same k (reg r w) = refl
width_same k (const w v) = refl
width_same k (read InMemory a w) = refl
width_same k (read InFile a w) = refl
width_same k (un o a) = width_same k a
width_same k (bin o a b) = ap (result_width o) (width_same k a)
width_same k (slice a hi lo) = refl
width_same k (cat a b) = λ j. width_same k a j + width_same k b j
width_same k (zext a w) = refl
width_same k (sext a w) = refl
width_same k (select c a b) = width_same k a

-- a property of the left operand of an operator, and of one in a slice
abbrev pub OfLeft : (ExprModel → Type 0) → ExprModel → Type 0
OfLeft P (bin o a b) = P a
OfLeft P _ = Unit {0}

abbrev pub OfIndex : (ExprModel → Type 0) → ExprModel → Type 0
OfIndex P (slice a hi lo) = OfLeft P a
OfIndex P _ = Unit {0}

-- of a tree, and of the index that is added to an array's address in it
pub record Told (P : ExprModel → Type 0) (t : ExprModel) : Type 0 where
  pub here : P t
  pub left : OfLeft P t
  pub index : OfIndex P t

module _ (k : ℕ) (cells : List ℕ) where
  address_value : (index new : ExprModel) (width base hi lo : ℕ) → IndexLies k cells index width base hi lo → tree_value cells new ≡ tree_value cells index → expr_width new ≡ expr_width index → tree_value cells (summed k width new base) ≡ tree_value cells (slice (bin Add index (const width base)) hi lo)
  address_value index new width base hi lo h same wide =
      let v : ℕ = tree_value cells index in
      let sm : v + base < 2 ^ (k + 1) = small k v base h.some h.inside h.base_fits in
      let grow : 2 ^ (k + 1) ≤ 2 ^ width = pow-le-pow_right (lit< tt) (omega (arith, h.room)) in
      let part_grow : 2 ^ k ≤ 2 ^ width = pow-le-pow_right (lit< tt) (omega (arith, h.room)) in
      let old : tree_value cells (slice (bin Add index (const width base)) hi lo) ≡ v + base =
      ap (λ n. slice_of ((v + base) % 2 ^ n) hi lo) h.wide
      ∙ ap (λ n. slice_of n hi lo) (mod-eq_of_lt (let q : v + base < 2 ^ width = omega (arith, sm, grow) in q))
      ∙ ap (λ n. slice_of (v + base) n lo) h.high ∙ ap (λ n. slice_of (v + base) k n) h.low
      ∙ low_all (v + base) (k + 1) k refl sm in
      let part : tree_value cells (slice (bin Add new (const width (base % 2 ^ k))) (k - 1) 0) ≡ v + base % 2 ^ k =
      ap (λ x. slice_of ((x + base % 2 ^ k) % 2 ^ expr_width new) (k - 1) 0) same
      ∙ ap (λ n. slice_of ((v + base % 2 ^ k) % 2 ^ n) (k - 1) 0) (wide ∙ h.wide)
      ∙ ap (λ n. slice_of n (k - 1) 0) (mod-eq_of_lt (let q : v + base % 2 ^ k < 2 ^ width = omega (arith, h.inside, part_grow) in q))
      ∙ low_all (v + base % 2 ^ k) k (k - 1) (omega (arith, h.some)) h.inside in
      by v part old sm (nat_lt base (2 ^ k)) refl h
    where
      by : (v : ℕ) → tree_value cells (slice (bin Add new (const width (base % 2 ^ k))) (k - 1) 0) ≡ v + base % 2 ^ k → tree_value cells (slice (bin Add index (const width base)) hi lo) ≡ v + base → v + base < 2 ^ (k + 1) → (b : Bool) → nat_lt base (2 ^ k) ≡ b → IndexLies k cells index width base hi lo → tree_value cells (summed k width new base) ≡ tree_value cells (slice (bin Add index (const width base)) hi lo)
      by v part old sm true e h =
          let lt : base < 2 ^ k = ltb-true base (2 ^ k) e in
          ap (λ (b : Bool). tree_value cells (cond b (zext (slice (bin Add new (const width (base % 2 ^ k))) (k - 1) 0) (k + 1)) (bin Add (zext (slice (bin Add new (const width (base % 2 ^ k))) (k - 1) 0) (k + 1)) (const (k + 1) (2 ^ k))))) e
          ∙ part ∙ ap (λ n. v + n) (mod-eq_of_lt lt) ∙ sym old
      by v part old sm false e h =
          let ge : 2 ^ k ≤ base = ltb-false base (2 ^ k) e in
          let q : 2 ^ k + base % 2 ^ k ≡ base = above k (tree_value cells index) base h.some h.inside h.base_fits ge in
          let s : v + base % 2 ^ k + 2 ^ k ≡ v + base = omega (arith, q) in
          ap (λ (b : Bool). tree_value cells (cond b (zext (slice (bin Add new (const width (base % 2 ^ k))) (k - 1) 0) (k + 1)) (bin Add (zext (slice (bin Add new (const width (base % 2 ^ k))) (k - 1) 0) (k + 1)) (const (k + 1) (2 ^ k))))) e
          ∙ ap (λ n. (n + 2 ^ k) % 2 ^ (k + 1)) part
          ∙ ap (λ n. n % 2 ^ (k + 1)) s ∙ mod-eq_of_lt sm ∙ sym old

  -- ---- values of trees

  abbrev pub Same : ExprModel → Type 0
  Same t = tree_value cells (banked_tree k t) ≡ tree_value cells t

  address_same : (t : ExprModel) → Same t → OfIndex Same t → AddressLies k cells t → tree_value cells (banked_address k (banked_tree k t)) ≡ tree_value cells t
  address_same (slice (bin Add index (const width base)) hi lo) same left h = address_value index (banked_tree k index) width base hi lo h left (width_same k index)
  address_same (slice (bin Add index (read InMemory a w)) hi lo) same left h = same
  address_same (slice (bin Add index (read InFile a w)) hi lo) same left h = same
  address_same (slice (read InMemory a w) hi lo) same left h = same
  address_same (slice (read InFile a w) hi lo) same left h = same
  address_same (read InMemory a w) same left h = same
  address_same (read InFile a w) same left h = same
  address_same t same left h = same

  told : (t : ExprModel) → IndexesLie k cells t → Told Same t
  told (word w) h = record { here = refl; left = tt; index = tt }
  told (reg r w) h = record { here = refl; left = tt; index = tt }
  told (const w v) h = record { here = refl; left = tt; index = tt }
  told (read InMemory a w) h =
      let r = told a h.0 in
      record { here = ap (slice_index cells) (address_same a r.here r.index h.1); left = tt; index = tt }
  told (read InFile a w) h =
      let r = told a h in
      let none : List ℕ = [] in
      record { here = ap (slice_index none) r.here; left = tt; index = tt }
  told (un o a) h =
      let r = told a h in
      let w = width_same k a in
      record { here = ap (λ n. apply1_of o n (tree_value cells (banked_tree k a))) w ∙ ap (apply1_of o (expr_width a)) r.here; left = tt; index = tt }
  told (bin o a b) h =
      let r = told a h.0 in
      let q = told b h.1 in
      record {
        here =
            ap (λ n. apply2_of o n (tree_value cells (banked_tree k a)) (tree_value cells (banked_tree k b))) (width_same k a)
            ∙ ap (λ n. apply2_of o (expr_width a) n (tree_value cells (banked_tree k b))) r.here
            ∙ ap (apply2_of o (expr_width a) (tree_value cells a)) q.here;
        left = r.here;
        index = tt;
      }
  told (slice a hi lo) h =
      let r = told a h in
      record { here = ap (λ n. slice_of n hi lo) r.here; left = tt; index = r.left }
  told (cat a b) h =
      let r = told a h.0 in
      let q = told b h.1 in
      record {
        here =
            ap (λ n. cat_of n (tree_value cells (banked_tree k b)) (expr_width (banked_tree k b))) r.here
            ∙ ap (λ n. cat_of (tree_value cells a) n (expr_width (banked_tree k b))) q.here
            ∙ ap (cat_of (tree_value cells a) (tree_value cells b)) (width_same k b);
        left = tt;
        index = tt;
      }
  told (zext a w) h = record { here = (told a h).here; left = tt; index = tt }
  told (sext a w) h =
      let r = told a h in
      record { here = ap (λ n. sext_of n (expr_width (banked_tree k a)) w) r.here ∙ ap (λ n. sext_of (tree_value cells a) n w) (width_same k a); left = tt; index = tt }
  told (select c a b) h =
      let r = told c h.0 in
      let p = told a h.1 in
      let q = told b h.2 in
      record { here = rw (r.here, p.here, q.here) refl; left = tt; index = tt }

  pub tree_same : (t : ExprModel) → IndexesLie k cells t → tree_value cells (banked_tree k t) ≡ tree_value cells t
  tree_same t h = (told t h).here

  -- ---- what trees read

  address_reads : (at : ℕ) (t : ExprModel) → ReadsCells at cells t → ReadsCells at cells (banked_address k t)
  address_reads at (slice (bin Add index (const width base)) hi lo) r = by (nat_lt base (2 ^ k))
    where
      by : (b : Bool) → ReadsCells at cells (cond b (zext (slice (bin Add index (const width (base % 2 ^ k))) (k - 1) 0) (k + 1)) (bin Add (zext (slice (bin Add index (const width (base % 2 ^ k))) (k - 1) 0) (k + 1)) (const (k + 1) (2 ^ k))))
      by true = r
      by false = (r, tt)
  address_reads at t r = r

  tree_reads : (at : ℕ) (t : ExprModel) → IndexesLie k cells t → ReadsCells at cells t → ReadsCells at cells (banked_tree k t)
  tree_reads at (word w) h r = tt
  tree_reads at (reg id w) h r = tt
  tree_reads at (const w v) h r = tt
  tree_reads at (read InMemory a w) h r =
      let t = told a h.0 in
      let e = address_same a t.here t.index h.1 in
      (address_reads at (banked_tree k a) (tree_reads at a h.0 r.0), subst (λ n. at ≤ n) (sym e) r.1)
  tree_reads at (read InFile a w) h r = r
  tree_reads at (un o a) h r = tree_reads at a h r
  tree_reads at (bin o a b) h r = (tree_reads at a h.0 r.0, tree_reads at b h.1 r.1)
  tree_reads at (slice a hi lo) h r = tree_reads at a h r
  tree_reads at (cat a b) h r = (tree_reads at a h.0 r.0, tree_reads at b h.1 r.1)
  tree_reads at (zext a w) h r = tree_reads at a h r
  tree_reads at (sext a w) h r = tree_reads at a h r
  tree_reads at (select c a b) h r = (tree_reads at c h.0 r.0, tree_reads at a h.1 r.1, tree_reads at b h.2 r.2)

  -- ---- jobs

  all_read : (at : ℕ) (trees : List ExprModel) → AllIndexesLie k cells trees → AllRead at cells trees → AllRead at cells (map (banked_tree k) trees)
  all_read at [] h r = tt
  all_read at (t ∷ trees) h r = (tree_reads at t h.0 r.0, all_read at trees h.1 r.1)

  pub all_same : (v : ℕ) (trees : List ExprModel) → AllIndexesLie k cells trees → AllAre v cells trees → AllAre v cells (map (banked_tree k) trees)
  all_same v [] h r = tt
  all_same v (t ∷ trees) h r = (tree_same t h.0 ∙ r.0, all_same v trees h.1 r.1)

  destination_lies : (at : ℕ) (destination : DestinationModel) → DestinationIndexesLie k cells destination → DestinationLies at cells destination → DestinationLies at cells (banked_destination k destination)
  destination_lies at (cell address) h r = r
  destination_lies at (stored address) h r =
      let t = told address h.0 in
      let e = address_same address t.here t.index h.1 in (
        address_reads at (banked_tree k address) (tree_reads at address h.0 r.0),
        subst (λ n. at ≤ n) (sym e) r.1,
        subst (λ n. n < length cells) (sym e) r.2,
      )
  destination_lies at (into id) h r = tt
  destination_lies at temporary h r = tt
  destination_lies at filed h r = tt
  destination_lies at tested h r = tt

  -- a job reads and writes no cell below those that it does with the addresses of one memory
  pub job_lies : (at : ℕ) (job : JobModel) → JobIndexesLie k cells job → Lies at cells job → Lies at cells (job_of_banked k job)
  job_lies at job h r = record {
    reads = all_read at job.trees h.trees r.reads;
    destination = destination_lies at job.destination h.destination r.destination;
    below = r.below;
  }

  pub first_same : (trees : List ExprModel) → AllIndexesLie k cells trees → job_value cells (map (banked_tree k) trees) ≡ job_value cells trees
  first_same [] h = refl
  first_same (t ∷ trees) h = tree_same t h.0

  pub cell_same : (destination : DestinationModel) → DestinationIndexesLie k cells destination → destination_cell cells (banked_destination k destination) ≡ destination_cell cells destination
  cell_same (cell address) h = refl
  cell_same (stored address) h =
      let r = told address h.0 in
      ap Some (address_same address r.here r.index h.1)
  cell_same (into id) h = refl
  cell_same temporary h = refl
  cell_same filed h = refl
  cell_same tested h = refl

  -- a job does to the cells what it does with the addresses of one memory
  pub done_same : (job : JobModel) → JobIndexesLie k cells job → done (job_of_banked k job) cells ≡ done job cells
  done_same job h =
      ap (λ c. put_in c (job_value cells (map (banked_tree k) job.trees)) cells) (cell_same job.destination h.destination)
      ∙ ap (λ v. put_in (destination_cell cells job.destination) v cells) (first_same job.trees h.trees)
