-- The jobs of two memories are trees where those of one are, need no more temporary cells, and are
-- at most twice as large.
use Rattle.std.proofs.Common.{ℕ, ◌≡◌, ◌+◌, ◌*◌, ◌-◌, ◌%◌, ◌^◌, ◌<◌, ◌≤◌, ◌&&◌, ◌∙◌, ap, refl, arith, nat_lt, Bool, true, false, if◌then◌else◌, cond, List, [], ◌∷◌, map}
use Rattle.std.proofs.lemmas.Bool.{ne_eqb}
use Rattle.rec_bits.specs.declared.operator.Op2.TheVariants.{Add}
use Rattle.rec_bits.proofs.Booleans.{and-true}
use Rattle.net_model.specs.declared.hardware.Space.TheVariants.{Memory as InMemory, File as InFile}
use Rattle.net_model.specs.Exprs.{ExprModel, word, reg, const, read, un, bin, slice, cat, zext, sext, select, size_of}
use Rattle.form_model.specs.Forms.{DestinationModel, into, cell, filed, stored, temporary, tested}
use Rattle.form_model.specs.Trees.{is_number, is_tree}
use Rattle.form_model.specs.WideNodes.{tree_temps, wide_below, wide_nodes, word_node}
use Rattle.src_trees.specs.Lowered.{JobModel}
use Rattle.src_trees.specs.Measures.{tree_size, IsTreeGoal, TreesAre, AllSmall}
use Rattle.dual_bank.specs.Banked.{banked_address, banked_destination, banked_tree, job_of_banked}
use Rattle.dual_bank.proofs.Joined.{OfIndex, Told, width_same}

-- an address over both memories, below the bank or in it
abbrev whole : ℕ → ℕ → ℕ → ExprModel → Bool → ExprModel
whole k width base index below =
    let address = zext (slice (bin Add index (const width (base % 2 ^ k))) (k - 1) 0) (k + 1) in
    cond below address (bin Add address (const (k + 1) (2 ^ k)))

-- ---- trees

module _ (k : ℕ) where
  address_tree : (t : ExprModel) → is_tree (banked_address k t) ≡ is_tree t
  address_tree (slice (bin Add index (const width base)) hi lo) = by (nat_lt base (2 ^ k))
    where
      by : (b : Bool) → is_tree (whole k width base index b) ≡ (is_tree index && true)
      by true = refl
      by false = and-true (is_tree index && true)
  address_tree t = refl

  tree_kept : (t : ExprModel) → is_tree (banked_tree k t) ≡ is_tree t
  tree_kept (word w) = refl
  tree_kept (reg r w) = refl
  tree_kept (const w v) = refl
  tree_kept (read InMemory a w) = address_tree (banked_tree k a) ∙ tree_kept a
  tree_kept (read InFile a w) = refl
  tree_kept (un o a) = tree_kept a
  tree_kept (bin o a b) = λ j. tree_kept a j && tree_kept b j
  tree_kept (slice a hi lo) = tree_kept a
  tree_kept (cat a b) = refl
  tree_kept (zext a w) = tree_kept a
  tree_kept (sext a w) = tree_kept a
  tree_kept (select c a b) = refl

  -- ---- sizes

  abbrev Half : ExprModel → Type 0
  Half t = size_of (banked_tree k t) + 1 ≤ 2 * size_of t

  address_size : (t : ExprModel) → Half t → OfIndex Half t → size_of (banked_address k (banked_tree k t)) + 1 ≤ 2 * size_of t
  address_size (slice (bin Add index (const width base)) hi lo) here left = by (nat_lt base (2 ^ k))
    where
      by : (b : Bool) → size_of (whole k width base (banked_tree k index) b) + 1 ≤ 2 * (size_of index + 1 + 1 + 1)
      by true = omega (arith, left)
      by false = omega (arith, left)
  address_size (slice (bin Add index (read InMemory a w)) hi lo) here left = here
  address_size (slice (bin Add index (read InFile a w)) hi lo) here left = here
  address_size (slice (read InMemory a w) hi lo) here left = here
  address_size (slice (read InFile a w) hi lo) here left = here
  address_size (read InMemory a w) here left = here
  address_size (read InFile a w) here left = here
  address_size t here left = here

  halved : (t : ExprModel) → Told Half t
  halved (word w) = record { here = omega arith; left = tt; index = tt }
  halved (reg r w) = record { here = omega arith; left = tt; index = tt }
  halved (const w v) = record { here = omega arith; left = tt; index = tt }
  halved (read InMemory a w) =
      let r = halved a in
      let s = address_size a r.here r.index in
      record { here = omega (arith, s); left = tt; index = tt }
  halved (read InFile a w) = let r = (halved a).here in record { here = omega (arith, r); left = tt; index = tt }
  halved (un o a) = let r = (halved a).here in record { here = omega (arith, r); left = tt; index = tt }
  halved (bin o a b) =
      let r = (halved a).here in
      let q = (halved b).here in
      record { here = omega (arith, r, q); left = r; index = tt }
  halved (slice a hi lo) =
      let r = halved a in
      let h = r.here in
      record { here = omega (arith, h); left = tt; index = r.left }
  halved (cat a b) =
      let r = (halved a).here in
      let q = (halved b).here in
      record { here = omega (arith, r, q); left = tt; index = tt }
  halved (zext a w) = let r = (halved a).here in record { here = omega (arith, r); left = tt; index = tt }
  halved (sext a w) = let r = (halved a).here in record { here = omega (arith, r); left = tt; index = tt }
  halved (select c a b) =
      let p = (halved c).here in
      let r = (halved a).here in
      let q = (halved b).here in
      record { here = omega (arith, p, r, q); left = tt; index = tt }

  job_size : (destination : DestinationModel) (t : ExprModel) → tree_size (banked_destination k destination) (banked_tree k t) ≤ 2 * tree_size destination t
  job_size (stored address) t =
      let a = halved address in
      let s = address_size address a.here a.index in
      let r = (halved t).here in
      omega (arith, s, r)
  job_size (into id) t = let r = (halved t).here in omega (arith, r)
  job_size (cell address) t = let r = (halved t).here in omega (arith, r)
  job_size temporary t = let r = (halved t).here in omega (arith, r)
  job_size filed t = let r = (halved t).here in omega (arith, r)
  job_size tested t = let r = (halved t).here in omega (arith, r)

  goal_kept : (destination : DestinationModel) → IsTreeGoal destination → IsTreeGoal (banked_destination k destination)
  goal_kept (stored address) h = address_tree (banked_tree k address) ∙ tree_kept address ∙ h
  goal_kept (into id) h = h
  goal_kept (cell address) h = tt
  goal_kept temporary h = h
  goal_kept filed h = h
  goal_kept tested h = tt

  -- ---- numbers

  address_number : (t : ExprModel) → is_number (banked_address k t) ≡ is_number t
  address_number (slice (bin Add index (const width base)) hi lo) = by (nat_lt base (2 ^ k))
    where
      by : (b : Bool) → is_number (whole k width base index b) ≡ false
      by true = refl
      by false = refl
  address_number t = refl

  number_kept : (t : ExprModel) → is_number (banked_tree k t) ≡ is_number t
  number_kept (read InMemory a w) = refl
  number_kept (read InFile a w) = refl
  number_kept t = refl

-- ---- nodes of a word's width

module _ (k bits : ℕ) (some : 1 ≤ k) (room : k + 2 ≤ bits) where
  narrow : (n : ℕ) → n < bits → word_node bits n ≡ 0
  narrow n lt = ap (λ b. if b then 1 else 0) (ne_eqb n bits (λ s. omega arith))

  address_wide : (t : ExprModel) → wide_nodes bits (banked_address k t) ≤ wide_nodes bits t
  address_wide (slice (bin Add index (const width base)) hi lo) = by (nat_lt base (2 ^ k)) (narrow (k + 1) (omega arith)) (narrow (k - 1 + 1 - 0) (omega arith))
    where
      by : (b : Bool) → word_node bits (k + 1) ≡ 0 → word_node bits (k - 1 + 1 - 0) ≡ 0 → wide_nodes bits (whole k width base index b) ≤ wide_nodes bits (slice (bin Add index (const width base)) hi lo)
      by true e q = omega (arith, e, q)
      by false e q = omega (arith, e, q)
  address_wide t = omega arith

  read_wide : (a b : ExprModel) (w : ℕ) → is_number a ≡ is_number b → wide_nodes bits a ≤ wide_nodes bits b
      → (if is_number a then 0 else word_node bits w + wide_nodes bits a) ≤ (if is_number b then 0 else word_node bits w + wide_nodes bits b)
  read_wide a b w e h = rw e (by (is_number b))
    where
      by : (c : Bool) → (if c then 0 else word_node bits w + wide_nodes bits a) ≤ (if c then 0 else word_node bits w + wide_nodes bits b)
      by true = omega arith
      by false = omega (arith, h)

  wide_kept : (t : ExprModel) → wide_nodes bits (banked_tree k t) ≤ wide_nodes bits t
  wide_kept (word w) = omega arith
  wide_kept (reg r w) = omega arith
  wide_kept (const w v) = omega arith
  wide_kept (read InMemory a w) =
      let p = address_wide (banked_tree k a) in
      let q = wide_kept a in
      read_wide (banked_address k (banked_tree k a)) a w (address_number k (banked_tree k a) ∙ number_kept k a) (omega (arith, p, q))
  wide_kept (read InFile a w) = read_wide (banked_tree k a) a w (number_kept k a) (wide_kept a)
  wide_kept (un o a) =
      let r = wide_kept a in
      let e = ap (word_node bits) (width_same k a) in
      omega (arith, r, e)
  wide_kept (bin o a b) =
      let r = wide_kept a in
      let q = wide_kept b in
      let e = ap (word_node bits) (width_same k (bin o a b)) in
      omega (arith, r, q, e)
  wide_kept (slice a hi lo) = let r = wide_kept a in omega (arith, r)
  wide_kept (cat a b) =
      let r = wide_kept a in
      let q = wide_kept b in
      let e = ap (word_node bits) (width_same k (cat a b)) in
      omega (arith, r, q, e)
  wide_kept (zext a w) = let r = wide_kept a in omega (arith, r)
  wide_kept (sext a w) = let r = wide_kept a in omega (arith, r)
  wide_kept (select c a b) =
      let p = wide_kept c in
      let r = wide_kept a in
      let q = wide_kept b in
      let e = ap (word_node bits) (width_same k a) in
      omega (arith, p, r, q, e)

  read_below : (a b : ExprModel) → is_number a ≡ is_number b → wide_nodes bits a ≤ wide_nodes bits b → (if is_number a then 0 else wide_nodes bits a) ≤ (if is_number b then 0 else wide_nodes bits b)
  read_below a b e h = rw e (by (is_number b))
    where
      by : (c : Bool) → (if c then 0 else wide_nodes bits a) ≤ (if c then 0 else wide_nodes bits b)
      by true = omega arith
      by false = h

  below_kept : (t : ExprModel) → wide_below bits (banked_tree k t) ≤ wide_below bits t
  below_kept (word w) = omega arith
  below_kept (reg r w) = omega arith
  below_kept (const w v) = omega arith
  below_kept (read InMemory a w) =
      let p = address_wide (banked_tree k a) in
      let q = wide_kept a in
      read_below (banked_address k (banked_tree k a)) a (address_number k (banked_tree k a) ∙ number_kept k a) (omega (arith, p, q))
  below_kept (read InFile a w) = read_below (banked_tree k a) a (number_kept k a) (wide_kept a)
  below_kept (un o a) = wide_kept a
  below_kept (bin o a b) =
      let r = wide_kept a in
      let q = wide_kept b in
      omega (arith, r, q)
  below_kept (slice a hi lo) = wide_kept a
  below_kept (cat a b) =
      let r = wide_kept a in
      let q = wide_kept b in
      omega (arith, r, q)
  below_kept (zext a w) = wide_kept a
  below_kept (sext a w) = wide_kept a
  below_kept (select c a b) =
      let p = wide_kept c in
      let r = wide_kept a in
      let q = wide_kept b in
      omega (arith, p, r, q)

  job_temps : (destination : DestinationModel) (t : ExprModel) → tree_temps bits (banked_destination k destination) (banked_tree k t) ≤ tree_temps bits destination t
  job_temps (stored address) t =
      let p = address_wide (banked_tree k address) in
      let q = wide_kept address in
      let r = wide_kept t in
      omega (arith, p, q, r)
  job_temps (into id) t = below_kept t
  job_temps (cell address) t = below_kept t
  job_temps temporary t = wide_kept t
  job_temps filed t = below_kept t
  job_temps tested t = below_kept t

  -- ---- jobs

  module _ (temps most : ℕ) where
    trees_small : (destination : DestinationModel) (trees : List ExprModel) → TreesAre bits temps most destination trees → TreesAre bits temps (2 * most) (banked_destination k destination) (map (banked_tree k) trees)
    trees_small destination [] h = tt
    trees_small destination (t ∷ trees) h =
        let n = job_temps destination t in
        let s = job_size k destination t in
        (tree_kept k t ∙ h.0, omega (arith, n, h.1), omega (arith, s, h.2), trees_small destination trees h.3)

    pub banked_small : (jobs : List JobModel) → AllSmall bits temps most jobs → AllSmall bits temps (2 * most) (map (job_of_banked k) jobs)
    banked_small [] h = tt
    banked_small (job ∷ later) h = (
      record { destination = goal_kept k job.destination h.0.destination; trees = trees_small job.destination job.trees h.0.trees },
      banked_small later h.1,
    )
