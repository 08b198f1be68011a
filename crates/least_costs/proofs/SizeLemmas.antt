-- What a match leaves of a tree is the whole tree, or smaller.
use Rattle.std.proofs.Common.{◌≡◌, ℕ, ◌+◌, ◌<◌, ◌≤◌, List, [], ◌∷◌, ◌++◌, Option, Some, None, Bool, true, false, refl, sym, ap, ◌∙◌, subst, arith, inl, inr, ◌⊎◌, zero-add}
use Rattle.std.specs.Prelude.{if◌then◌else◌, ◌==◌, ◌&&◌, not}
use Rattle.std.proofs.lemmas.Bool.{eqb-true}
use Rattle.net_model.specs.declared.hardware.Space.TheVariants.{Memory as InMemory, File as InFile}
use Rattle.net_model.specs.Exprs.{ExprModel, word, reg, const, read, un, bin, slice, cat, zext, sext, select, expr_width, size_of}
use Rattle.rec_bits.specs.declared.operator.Op1.{Op1}
use Rattle.rec_bits.specs.declared.operator.Op2.{Op2}
use Rattle.rec_bits.proofs.Booleans.{and_left, and_right, true_false, either}
use Rattle.rec_bits.proofs.Options.{picked}
use Rattle.rec_bits.proofs.Equality.{number_self}
use Rattle.form_model.specs.Trees.{is_number, is_cell}
use Rattle.form_model.specs.Shapes.{is_shape, shows_below}
use Rattle.form_model.specs.Forms.{FormModel, GoalModel, into_reg, into_memory, into_file, jumps, branches, DestinationModel, into, filed, cell, stored, temporary, tested}
use Rattle.form_model.specs.Matches.{same_op1, same_op2, HomeModel, in_register, in_file, LeafModel, operand, cut, MatchModel, settled, open_if, both, shape_match, literal_match, cell_match, read_match, un_match, bin_match, slice_match, zext_match, sext_match, matched, address_match, goal_match, taken}
use Rattle.tree_grammar.specs.Leaves.{value_at}
use Rattle.form_model.specs.Covers.{operands_of, cuts_of}
use Rattle.least_costs.specs.declared.limits.Limits.{Limits}
use Rattle.least_costs.specs.declared.slots.Slot.{Slot}
use Rattle.least_costs.specs.declared.slots.Slot.TheVariants.{Register, Temporary}
use Rattle.least_costs.specs.Subgoals.{operands_size, exprs_size, is_free, rank, rest}
use Rattle.least_costs.specs.Slots.{goal_slot, home_slot}

pub size_pos : (t : ExprModel) → 1 ≤ size_of t
size_pos (word w) = omega arith
size_pos (reg r w) = omega arith
size_pos (const w v) = omega arith
size_pos (read space a w) = omega arith
size_pos (un o a) = omega arith
size_pos (bin o a b) = omega arith
size_pos (slice a h l) = omega arith
size_pos (cat a b) = omega arith
size_pos (zext a w) = omega arith
size_pos (sext a w) = omega arith
size_pos (select c a b) = omega arith

-- the size of all that is left open
abbrev pub total : List LeafModel → ℕ
total [] = 0
total (operand id tree whole ∷ leaves) = size_of tree + total leaves
total (cut shape tree ∷ leaves) = size_of tree + total leaves

pub total_parts : (leaves : List LeafModel) → total leaves ≡ operands_size (operands_of leaves) + exprs_size (cuts_of leaves)
total_parts [] = refl
total_parts (operand id tree whole ∷ leaves) = let h = total_parts leaves in omega (arith, h)
total_parts (cut shape tree ∷ leaves) = let h = total_parts leaves in omega (arith, h)

total-append : (xs ys : List LeafModel) → total (xs ++ ys) ≡ total xs + total ys
total-append [] ys = sym (zero-add (total ys))
total-append (operand id tree whole ∷ xs) ys = let h = total-append xs ys in omega (arith, h)
total-append (cut shape tree ∷ xs) ys = let h = total-append xs ys in omega (arith, h)

-- the tree itself as an operand, or as a cut, or less than the tree
abbrev pub Small : Bool → ExprModel → List LeafModel → Type 0
Small whole t leaves = ((h : HomeModel) × (leaves ≡ operand h t whole ∷ [])) ⊎ (((shape : ExprModel) × (leaves ≡ cut shape t ∷ []) × (whole ≡ false)) ⊎ (total leaves < size_of t))

pub small_le : (whole : Bool) (t : ExprModel) (leaves : List LeafModel) → Small whole t leaves → total leaves ≤ size_of t
small_le whole t leaves (inl h) = let e = ap total h.1 in omega (arith, e)
small_le whole t leaves (inr (inl h)) = let e = ap total h.1 in omega (arith, e)
small_le whole t leaves (inr (inr h)) = omega (arith, h)

inner : (whole w : Bool) (t a : ExprModel) (leaves : List LeafModel) → size_of a < size_of t → Small w a leaves → Small whole t leaves
inner whole w t a leaves lt h = inr (inr (let le = small_le w a leaves h in omega (arith, le, lt)))

none_left : (whole : Bool) (t : ExprModel) (leaves : List LeafModel) → leaves ≡ [] → Small whole t leaves
none_left whole t leaves e = inr (inr (let n = ap total e in let p = size_pos t in omega (arith, n, p)))

pub settled_leaves : (o : Option ℕ) (found : MatchModel) → settled o ≡ Some found → found.leaves ≡ []
settled_leaves None found h = absurd (cc)
settled_leaves (Some s) found h = let e : ◌≡◌ {A = MatchModel} (record { setting = s; leaves = [] }) found = cc in sym (ap (λ (f : MatchModel). f.leaves) e)

pub open_leaves : (b : Bool) (leaf : LeafModel) (found : MatchModel) → open_if b leaf ≡ Some found → (b ≡ true) × (found.leaves ≡ leaf ∷ [])
open_leaves true leaf found h = let e : ◌≡◌ {A = MatchModel} (record { setting = 0; leaves = leaf ∷ [] }) found = cc in (refl, sym (ap (λ (f : MatchModel). f.leaves) e))
open_leaves false leaf found h = absurd (cc)

pub shape_leaves : (shape t : ExprModel) (found : MatchModel) → shape_match shape t ≡ Some found → found.leaves ≡ []
shape_leaves shape (const w v) found h = settled_leaves _ found (picked (w == expr_width shape) _ found h).1
shape_leaves shape _ found h = absurd (cc)

pub literal_leaves : (shape t : ExprModel) (found : MatchModel) → literal_match shape t ≡ Some found → found.leaves ≡ []
literal_leaves shape (read InMemory a w) found h = shape_leaves shape a found h
literal_leaves shape _ found h = absurd (cc)

pub both_parts : (a b : Option MatchModel) (found : MatchModel) → both a b ≡ Some found → (f : MatchModel) × (g : MatchModel) × (a ≡ Some f) × (b ≡ Some g) × (found.leaves ≡ f.leaves ++ g.leaves)
both_parts None b found h = absurd (cc)
both_parts (Some f) None found h = absurd (cc)
both_parts (Some f) (Some g) found h = (f, g, refl, refl, (let inj : (x y : MatchModel) → Some x ≡ Some y → x ≡ y = λ x y e. cc in sym (ap (λ (x : MatchModel). x.leaves) (inj _ found h))))

pub read_parts : (f : ExprModel → Bool → Option MatchModel) (w : ℕ) (t : ExprModel) (found : MatchModel) → read_match f w t ≡ Some found → (a : ExprModel) × (v : ℕ) × (t ≡ read InMemory a v) × (f a (is_number a) ≡ Some found)
read_parts f w (read InMemory a v) found h = (a, v, refl, (picked (v == w) _ found h).1)
read_parts f w _ found h = absurd (cc)

pub un_parts : (f : ExprModel → Bool → Option MatchModel) (op : Op1) (t : ExprModel) (found : MatchModel) → un_match f op t ≡ Some found → (o : Op1) × (a : ExprModel) × (t ≡ un o a) × (f a false ≡ Some found)
un_parts f op (un o a) found h = (o, a, refl, (picked (same_op1 o op) _ found h).1)
un_parts f op _ found h = absurd (cc)

pub bin_parts : (f g : ExprModel → Bool → Option MatchModel) (op : Op2) (t : ExprModel) (found : MatchModel) → bin_match f g op t ≡ Some found → (o : Op2) × (a : ExprModel) × (b : ExprModel) × (t ≡ bin o a b) × (both (f a false) (g b false) ≡ Some found)
bin_parts f g op (bin o a b) found h = (o, a, b, refl, (picked (same_op2 o op) _ found h).1)
bin_parts f g op _ found h = absurd (cc)

pub slice_parts : (f : ExprModel → Bool → Option MatchModel) (n hi lo : ℕ) (t : ExprModel) (found : MatchModel) → slice_match f n hi lo t ≡ Some found → (a : ExprModel) × (x : ℕ) × (y : ℕ) × (t ≡ slice a x y) × (f a false ≡ Some found)
slice_parts f n hi lo (slice a x y) found h = (a, x, y, refl, (picked ((expr_width a == n) && ((x == hi) && (y == lo))) _ found h).1)
slice_parts f n hi lo _ found h = absurd (cc)

pub zext_parts : (f : ExprModel → Bool → Option MatchModel) (n w : ℕ) (t : ExprModel) (found : MatchModel) → zext_match f n w t ≡ Some found → (a : ExprModel) × (v : ℕ) × (t ≡ zext a v) × (f a false ≡ Some found)
zext_parts f n w (zext a v) found h = (a, v, refl, (picked ((expr_width a == n) && (v == w)) _ found h).1)
zext_parts f n w _ found h = absurd (cc)

pub sext_parts : (f : ExprModel → Bool → Option MatchModel) (n w : ℕ) (t : ExprModel) (found : MatchModel) → sext_match f n w t ≡ Some found → (a : ExprModel) × (v : ℕ) × (t ≡ sext a v) × (f a false ≡ Some found)
sext_parts f n w (sext a v) found h = (a, v, refl, (picked ((expr_width a == n) && (v == w)) _ found h).1)
sext_parts f n w _ found h = absurd (cc)

not_whole : (whole b : Bool) → (not whole && b) ≡ true → whole ≡ false
not_whole true b e = absurd (cc)
not_whole false b e = refl

cell_small : (temps : ℕ) (addr : ExprModel) (w : ℕ) (t : ExprModel) (whole : Bool) (found : MatchModel) → cell_match temps addr w t whole ≡ Some found → Small whole t found.leaves
cell_small temps addr w t whole found h = go (is_cell t) (picked (w == expr_width t) _ found h).1
  where
    go : (b : Bool) → (if b then literal_match addr t else open_if (not whole && shows_below addr temps) (cut addr t)) ≡ Some found → Small whole t found.leaves
    go true e = none_left whole t found.leaves (literal_leaves addr t found e)
    go false e = let (ok, is) = open_leaves (not whole && shows_below addr temps) (cut addr t) found e in inr (inl (addr, is, not_whole whole _ ok))

pub matched_small : (temps : ℕ) (e t : ExprModel) (whole : Bool) (found : MatchModel) → matched temps e t whole ≡ Some found → Small whole t found.leaves
matched_small temps (word w) t whole found h = none_left whole t found.leaves (shape_leaves (word w) t found h)
matched_small temps (const w v) t whole found h = none_left whole t found.leaves (shape_leaves (const w v) t found h)
matched_small temps (reg r w) t whole found h = inl (in_register r, (open_leaves (w == expr_width t) (operand (in_register r) t whole) found h).1)
matched_small temps (read InFile a w) t whole found h = inl (in_file a, (open_leaves (w == expr_width t) (operand (in_file a) t whole) found h).1)
matched_small temps (read InMemory a w) t whole found h =
    elim (either (is_shape a) (cell_match temps a w t whole) (read_match (matched temps a) w t) (Some found) h) [
      | inl c ↦ cell_small temps a w t whole found c
      | inr r ↦ (let (b, v, e, m) = read_parts (matched temps a) w t found r in
          inner whole (is_number b) t b found.leaves (let n = ap size_of e in omega (arith, n)) (matched_small temps a b (is_number b) found m))
    ]
matched_small temps (un o a) t whole found h =
    let (p, b, e, m) = un_parts (matched temps a) o t found h in
    inner whole false t b found.leaves (let n = ap size_of e in omega (arith, n)) (matched_small temps a b false found m)
matched_small temps (bin o a b) t whole found h =
    elim (either (is_shape (bin o a b)) (shape_match (bin o a b) t) (bin_match (matched temps a) (matched temps b) o t) (Some found) h) [
      | inl c ↦ none_left whole t found.leaves (shape_leaves (bin o a b) t found c)
      | inr r ↦ (let (p, c, d, e, m) = bin_parts (matched temps a) (matched temps b) o t found r in
          let (f, g, ef, eg, is) = both_parts (matched temps a c false) (matched temps b d false) found m in
          let lf = small_le false c f.leaves (matched_small temps a c false f ef) in
          let lg = small_le false d g.leaves (matched_small temps b d false g eg) in
          inr (inr (let n = ap size_of e in let k = ap total is in let s = total-append f.leaves g.leaves in omega (arith, n, k, s, lf, lg))))
    ]
matched_small temps (slice a hi lo) t whole found h =
    elim (either (is_shape (slice a hi lo)) (shape_match (slice a hi lo) t) (slice_match (matched temps a) (expr_width a) hi lo t) (Some found) h) [
      | inl c ↦ none_left whole t found.leaves (shape_leaves (slice a hi lo) t found c)
      | inr r ↦ (let (b, x, y, e, m) = slice_parts (matched temps a) (expr_width a) hi lo t found r in
          inner whole false t b found.leaves (let n = ap size_of e in omega (arith, n)) (matched_small temps a b false found m))
    ]
matched_small temps (cat a b) t whole found h = absurd (cc)
matched_small temps (zext a w) t whole found h =
    elim (either (is_shape (zext a w)) (shape_match (zext a w) t) (zext_match (matched temps a) (expr_width a) w t) (Some found) h) [
      | inl c ↦ none_left whole t found.leaves (shape_leaves (zext a w) t found c)
      | inr r ↦ (let (b, v, e, m) = zext_parts (matched temps a) (expr_width a) w t found r in
          inner whole false t b found.leaves (let n = ap size_of e in omega (arith, n)) (matched_small temps a b false found m))
    ]
matched_small temps (sext a w) t whole found h =
    elim (either (is_shape (sext a w)) (shape_match (sext a w) t) (sext_match (matched temps a) (expr_width a) w t) (Some found) h) [
      | inl c ↦ none_left whole t found.leaves (shape_leaves (sext a w) t found c)
      | inr r ↦ (let (b, v, e, m) = sext_parts (matched temps a) (expr_width a) w t found r in
          inner whole false t b found.leaves (let n = ap size_of e in omega (arith, n)) (matched_small temps a b false found m))
    ]
matched_small temps (select c a b) t whole found h = absurd (cc)

-- a form into the register r
pub into_small : (temps : ℕ) (form : FormModel) (goal : GoalModel) (r : ℕ) (t : ExprModel) (whole : Bool) (found : MatchModel) → goal_match temps form goal (into r) t whole ≡ Some found → (goal_slot goal whole ≡ Some (Register r)) × Small whole t found.leaves
into_small temps form (into_reg d) r t whole found h =
    let (same, m) = picked (d == r) _ found h in (ap (λ i. Some (Register i)) (eqb-true d r same), matched_small temps form.value t whole found m)
into_small temps form into_memory r t whole found h = absurd (cc)
into_small temps form into_file r t whole found h = absurd (cc)
into_small temps form (jumps reach) r t whole found h = absurd (cc)
into_small temps form (branches when_one to) r t whole found h = absurd (cc)

-- a form into the file
pub filed_small : (temps : ℕ) (form : FormModel) (goal : GoalModel) (t : ExprModel) (whole : Bool) (found : MatchModel) → goal_match temps form goal filed t whole ≡ Some found → (goal ≡ into_file) × Small whole t found.leaves
filed_small temps form (into_reg d) t whole found h = absurd (cc)
filed_small temps form into_memory t whole found h = absurd (cc)
filed_small temps form into_file t whole found h = (refl, matched_small temps form.value t whole found h)
filed_small temps form (jumps reach) t whole found h = absurd (cc)
filed_small temps form (branches when_one to) t whole found h = absurd (cc)

address_leaves : (temps : ℕ) (addr : Option ExprModel) (found : MatchModel) → address_match temps addr temporary ≡ Some found → found.leaves ≡ []
address_leaves temps None found h = absurd (cc)
address_leaves temps (Some a) found h = settled_leaves (Some 0) found (picked (is_shape a && shows_below a temps) _ found h).1

-- a form into a temporary cell
pub temp_small : (temps : ℕ) (form : FormModel) (goal : GoalModel) (t : ExprModel) (whole : Bool) (found : MatchModel) → goal_match temps form goal temporary t whole ≡ Some found → (goal ≡ into_memory) × Small false t found.leaves
temp_small temps form (into_reg d) t whole found h = absurd (cc)
temp_small temps form into_file t whole found h = absurd (cc)
temp_small temps form into_memory t whole found h =
    let (f, g, ef, eg, is) = both_parts (address_match temps form.addr temporary) (matched temps form.value t false) found h in
    let e : found.leaves ≡ g.leaves = is ∙ ap (λ l. l ++ g.leaves) (address_leaves temps form.addr f ef) in
    (refl, subst (Small false t) (sym e) (matched_small temps form.value t false g eg))
temp_small temps form (jumps reach) t whole found h = absurd (cc)
temp_small temps form (branches when_one to) t whole found h = absurd (cc)

-- ---- what is taken for any destination has no more subtrees than its address and its tree

address_total : (temps : ℕ) (addr : Option ExprModel) (destination : DestinationModel) (found : MatchModel) → address_match temps addr destination ≡ Some found → total found.leaves ≤ value_at destination 0
address_total temps None destination found h = absurd (cc)
address_total temps (Some a) (cell address) found h = let e = ap total (settled_leaves _ found (picked (is_shape a) _ found h).1) in omega (arith, e)
address_total temps (Some a) (stored address) found h = let le = small_le false address found.leaves (matched_small temps a address false found h) in omega (arith, le)
address_total temps (Some a) temporary found h = let e = ap total (address_leaves temps (Some a) found h) in omega (arith, e)
address_total temps (Some a) (into id) found h = absurd (cc)
address_total temps (Some a) filed found h = absurd (cc)
address_total temps (Some a) tested found h = absurd (cc)

value_total : (temps : ℕ) (form : FormModel) (t : ExprModel) (whole : Bool) (found : MatchModel) → matched temps form.value t whole ≡ Some found → total found.leaves ≤ size_of t
value_total temps form t whole found h = small_le whole t found.leaves (matched_small temps form.value t whole found h)

both_total : (temps : ℕ) (form : FormModel) (destination : DestinationModel) (t : ExprModel) (whole : Bool) (found : MatchModel) → both (address_match temps form.addr destination) (matched temps form.value t whole) ≡ Some found → total found.leaves ≤ value_at destination 0 + size_of t
both_total temps form destination t whole found h =
    let (f, g, ef, eg, is) = both_parts (address_match temps form.addr destination) (matched temps form.value t whole) found h in
    let a = address_total temps form.addr destination f ef in
    let b = value_total temps form t whole g eg in
    let e = ap total is in
    let s = total-append f.leaves g.leaves in
    omega (arith, a, b, e, s)

goal_total : (temps : ℕ) (form : FormModel) (goal : GoalModel) (destination : DestinationModel) (t : ExprModel) (whole : Bool) (found : MatchModel) → goal_match temps form goal destination t whole ≡ Some found → total found.leaves ≤ value_at destination 0 + size_of t
goal_total temps form (into_reg r) (into id) t whole found h = let le = value_total temps form t whole found (picked (r == id) _ found h).1 in omega (arith, le)
goal_total temps form into_file filed t whole found h = let le = value_total temps form t whole found h in omega (arith, le)
goal_total temps form into_memory (cell address) t whole found h = both_total temps form (cell address) t true found h
goal_total temps form into_memory (stored address) t whole found h = both_total temps form (stored address) t false found h
goal_total temps form into_memory temporary t whole found h = both_total temps form temporary t false found h
goal_total temps form (branches when_one to) tested t whole found h = let le = value_total temps form t true found h in omega (arith, le)
goal_total temps form _ _ t whole found h = absurd (cc)

pub taken_total : (temps : ℕ) (form : FormModel) (destination : DestinationModel) (t : ExprModel) (whole : Bool) (found : MatchModel) → taken temps form destination t whole ≡ Some found → total found.leaves ≤ value_at destination 0 + size_of t
taken_total temps form destination t whole found h = goal_total temps form form.goal destination t whole found h

-- ---- the entry from which a match goes on

some_none : {A : Type 0} (b : Bool) (x : A) → (if b then Some x else None) ≡ None → b ≡ false
some_none true x h = absurd (cc)
some_none false x h = refl

and_false : (a b : Bool) → b ≡ true → (a && b) ≡ false → a ≡ false
and_false true b e f = absurd (cc)
and_false false b e f = refl

-- where it goes on from no entry, less than the tree is left, or the tree as a cut where not all is
-- free
pub rest_less : (whole : Bool) (t : ExprModel) (file : ℕ) (limits : Limits) (leaves : List LeafModel) → Small whole t leaves → rest (size_of t) (is_free file limits) leaves ≡ None → (total leaves < size_of t) ⊎ ((operands_of leaves ≡ []) × (cuts_of leaves ≡ t ∷ []) × (rank file limits ≡ 1))
rest_less whole t file limits leaves (inl (r, e)) none =
    absurd (true_false (size_of t == size_of t) (number_self (size_of t)) (some_none _ (home_slot r) (ap (rest (size_of t) (is_free file limits)) (sym e) ∙ none)))
rest_less whole t file limits leaves (inr (inl (shape, e, w))) none =
    let f : (is_free file limits) ≡ false = and_false (is_free file limits) (size_of t == size_of t) (number_self (size_of t)) (some_none ((is_free file limits) && (size_of t == size_of t)) Temporary (ap (rest (size_of t) (is_free file limits)) (sym e) ∙ none)) in
    inr (ap operands_of e, ap cuts_of e, ap (λ b. if b then 0 else 1) f)
rest_less whole t file limits leaves (inr (inr lt)) none = inl lt

pub rest_small : (whole : Bool) (t : ExprModel) (file : ℕ) (limits : Limits) (leaves : List LeafModel) → Small whole t leaves → rest (size_of t) (is_free file limits) leaves ≡ None → (operands_size (operands_of leaves) < size_of t) × (exprs_size (cuts_of leaves) < size_of t + rank file limits)
rest_small whole t file limits leaves small none = elim (rest_less whole t file limits leaves small none) [
  | inl lt ↦ (let p = total_parts leaves in (omega (arith, p, lt), omega (arith, p, lt)))
  | inr (a, b, k) ↦ (let n = ap operands_size a in let m = ap exprs_size b in let p = size_pos t in (omega (arith, n, p), omega (arith, m, k)))
]

taken_whole : (size : ℕ) (free : Bool) (leaves : List LeafModel) (q : Slot) → rest size free leaves ≡ Some q → total leaves ≡ size
taken_whole size free [] q h = absurd (cc)
taken_whole size free (operand home tree whole ∷ []) q h = let e = eqb-true (size_of tree) size (picked (size_of tree == size) (Some (home_slot home)) q h).0 in omega (arith, e)
taken_whole size free (operand id tree whole ∷ s ∷ leaves) q h = absurd (cc)
taken_whole size free (cut shape tree ∷ []) q h = let e = eqb-true (size_of tree) size (and_right free _ (picked (free && (size_of tree == size)) (Some Temporary) q h).0) in omega (arith, e)
taken_whole size free (cut shape tree ∷ s ∷ leaves) q h = absurd (cc)

pub rest_some : (whole : Bool) (t : ExprModel) (free : Bool) (leaves : List LeafModel) (q : Slot) → Small whole t leaves → rest (size_of t) free leaves ≡ Some q → ((h : HomeModel) × (leaves ≡ operand h t whole ∷ []) × (q ≡ home_slot h)) ⊎ ((shape : ExprModel) × (leaves ≡ cut shape t ∷ []) × (whole ≡ false) × (free ≡ true) × (q ≡ Temporary))
rest_some whole t free leaves q (inl (r, e)) h =
    let k = (picked (size_of t == size_of t) (Some (home_slot r)) q (ap (rest (size_of t) free) (sym e) ∙ h)).1 in
    let same : q ≡ home_slot r = cc in inl (r, e, same)
rest_some whole t free leaves q (inr (inl (shape, e, w))) h =
    let k = picked (free && (size_of t == size_of t)) (Some Temporary) q (ap (rest (size_of t) free) (sym e) ∙ h) in
    let l = k.1 in
    let same : q ≡ Temporary = cc in inr (shape, e, w, and_left free _ k.0, same)
rest_some whole t free leaves q (inr (inr lt)) h = absurd (let e = taken_whole (size_of t) free leaves q h in omega (arith, e, lt))
