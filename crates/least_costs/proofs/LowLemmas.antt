-- The registers of the operands that a form's match leaves open occur in the form.
use Rattle.std.proofs.Common.{◌≡◌, ℕ, List, [], ◌∷◌, ◌++◌, Option, Some, None, Bool, true, false, refl, sym, subst, inl, inr, arith}
use Rattle.std.specs.Prelude.{if◌then◌else◌, ◌==◌, ◌&&◌, not}
use Rattle.rec_bits.proofs.Booleans.{or_left, or_right, either}
use Rattle.rec_bits.proofs.Options.{picked}
use Rattle.rec_bits.proofs.Equality.{number_self}
use Rattle.net_model.specs.Occurs.{occurs}
use Rattle.net_model.specs.declared.hardware.Space.TheVariants.{Memory as InMemory, File as InFile}
use Rattle.net_model.specs.Exprs.{ExprModel, word, reg, const, read, un, bin, slice, cat, zext, sext, select, expr_width}
use Rattle.form_model.specs.Trees.{is_number, is_cell}
use Rattle.form_model.specs.Shapes.{is_shape, shows_below}
use Rattle.form_model.specs.Forms.{FormModel, GoalModel, into_reg, into_memory, into_file, branches, DestinationModel, into, filed, cell, stored, temporary, tested}
use Rattle.form_model.specs.Matches.{LeafModel, in_register, in_file, operand, cut, MatchModel, both, open_if, shape_match, literal_match, cell_match, bin_match, read_match, slice_match, zext_match, sext_match, matched, address_match, goal_match, taken}
use Rattle.form_model.specs.Registers.{IsLow, IsLowExpr}
use Rattle.least_costs.specs.Matched.{AreLowLeaves}
use Rattle.least_costs.proofs.SizeLemmas.{settled_leaves, open_leaves, shape_leaves, literal_leaves, both_parts, read_parts, un_parts, bin_parts, slice_parts, zext_parts, sext_parts}

none_low : (leaves : List LeafModel) → leaves ≡ [] → AreLowLeaves leaves
none_low leaves e = subst AreLowLeaves (sym e) tt

low-append : (xs ys : List LeafModel) → AreLowLeaves xs → AreLowLeaves ys → AreLowLeaves (xs ++ ys)
low-append [] ys h k = k
low-append (operand home tree whole ∷ xs) ys h k = (h.0, low-append xs ys h.1 k)
low-append (cut shape tree ∷ xs) ys h k = low-append xs ys h k

both_low : (a b : Option MatchModel) (found : MatchModel) → both a b ≡ Some found → ((f : MatchModel) → a ≡ Some f → AreLowLeaves f.leaves) → ((g : MatchModel) → b ≡ Some g → AreLowLeaves g.leaves) → AreLowLeaves found.leaves
both_low a b found h of_a of_b =
    let (f, g, ef, eg, is) = both_parts a b found h in
    subst AreLowLeaves (sym is) (low-append f.leaves g.leaves (of_a f ef) (of_b g eg))

cell_low : (temps : ℕ) (addr : ExprModel) (w : ℕ) (t : ExprModel) (whole : Bool) (found : MatchModel) → cell_match temps addr w t whole ≡ Some found → AreLowLeaves found.leaves
cell_low temps addr w t whole found h = go (is_cell t) (picked (w == expr_width t) _ found h).1
  where
    go : (b : Bool) → (if b then literal_match addr t else open_if (not whole && shows_below addr temps) (cut addr t)) ≡ Some found → AreLowLeaves found.leaves
    go true e = none_low found.leaves (literal_leaves addr t found e)
    go false e = subst AreLowLeaves (sym (open_leaves (not whole && shows_below addr temps) (cut addr t) found e).1) tt

matched_low : (temps : ℕ) (e t : ExprModel) (whole : Bool) (found : MatchModel) → matched temps e t whole ≡ Some found → IsLowExpr e → AreLowLeaves found.leaves
matched_low temps (word w) t whole found h low = none_low found.leaves (shape_leaves (word w) t found h)
matched_low temps (const w v) t whole found h low = none_low found.leaves (shape_leaves (const w v) t found h)
matched_low temps (reg r w) t whole found h low =
    subst AreLowLeaves (sym (open_leaves (w == expr_width t) (operand (in_register r) t whole) found h).1) (low r (number_self r), tt)
matched_low temps (read InFile a w) t whole found h low =
    subst AreLowLeaves (sym (open_leaves (w == expr_width t) (operand (in_file a) t whole) found h).1) (omega arith, tt)
matched_low temps (read InMemory a w) t whole found h low =
    elim (either (is_shape a) (cell_match temps a w t whole) (read_match (matched temps a) w t) (Some found) h) [
      | inl c ↦ cell_low temps a w t whole found c
      | inr r ↦ (let (b, v, e, m) = read_parts (matched temps a) w t found r in matched_low temps a b (is_number b) found m low)
    ]
matched_low temps (un o a) t whole found h low = let (p, b, e, m) = un_parts (matched temps a) o t found h in matched_low temps a b false found m low
matched_low temps (bin o a b) t whole found h low =
    elim (either (is_shape (bin o a b)) (shape_match (bin o a b) t) (bin_match (matched temps a) (matched temps b) o t) (Some found) h) [
      | inl s ↦ none_low found.leaves (shape_leaves (bin o a b) t found s)
      | inr r ↦ (let (p, c, d, e, m) = bin_parts (matched temps a) (matched temps b) o t found r in
          both_low (matched temps a c false) (matched temps b d false) found m
          (λ f is. matched_low temps a c false f is (λ q k. low q (or_left (occurs q a) (occurs q b) k)))
          (λ g is. matched_low temps b d false g is (λ q k. low q (or_right (occurs q a) (occurs q b) k))))
    ]
matched_low temps (slice a hi lo) t whole found h low =
    elim (either (is_shape (slice a hi lo)) (shape_match (slice a hi lo) t) (slice_match (matched temps a) (expr_width a) hi lo t) (Some found) h) [
      | inl c ↦ none_low found.leaves (shape_leaves (slice a hi lo) t found c)
      | inr r ↦ (let (b, x, y, e, m) = slice_parts (matched temps a) (expr_width a) hi lo t found r in matched_low temps a b false found m low)
    ]
matched_low temps (cat a b) t whole found h low = absurd (cc)
matched_low temps (zext a w) t whole found h low =
    elim (either (is_shape (zext a w)) (shape_match (zext a w) t) (zext_match (matched temps a) (expr_width a) w t) (Some found) h) [
      | inl c ↦ none_low found.leaves (shape_leaves (zext a w) t found c)
      | inr r ↦ (let (b, v, e, m) = zext_parts (matched temps a) (expr_width a) w t found r in matched_low temps a b false found m low)
    ]
matched_low temps (sext a w) t whole found h low =
    elim (either (is_shape (sext a w)) (shape_match (sext a w) t) (sext_match (matched temps a) (expr_width a) w t) (Some found) h) [
      | inl c ↦ none_low found.leaves (shape_leaves (sext a w) t found c)
      | inr r ↦ (let (b, v, e, m) = sext_parts (matched temps a) (expr_width a) w t found r in matched_low temps a b false found m low)
    ]
matched_low temps (select c a b) t whole found h low = absurd (cc)

address_low : (temps : ℕ) (addr : Option ExprModel) (destination : DestinationModel) (found : MatchModel) → address_match temps addr destination ≡ Some found → ((a : ExprModel) → addr ≡ Some a → IsLowExpr a) → AreLowLeaves found.leaves
address_low temps None destination found h low = absurd (cc)
address_low temps (Some a) (cell address) found h low = none_low found.leaves (settled_leaves _ found (picked (is_shape a) _ found h).1)
address_low temps (Some a) (stored address) found h low = matched_low temps a address false found h (low a refl)
address_low temps (Some a) temporary found h low = none_low found.leaves (settled_leaves (Some 0) found (picked (is_shape a && shows_below a temps) _ found h).1)
address_low temps (Some a) (into id) found h low = absurd (cc)
address_low temps (Some a) filed found h low = absurd (cc)
address_low temps (Some a) tested found h low = absurd (cc)

goal_low : (temps : ℕ) (form : FormModel) (goal : GoalModel) (destination : DestinationModel) (t : ExprModel) (whole : Bool) (found : MatchModel) → goal_match temps form goal destination t whole ≡ Some found → IsLow form → AreLowLeaves found.leaves
goal_low temps form (into_reg r) (into id) t whole found h low = matched_low temps form.value t whole found (picked (r == id) _ found h).1 low.2
goal_low temps form into_file filed t whole found h low = matched_low temps form.value t whole found h low.2
goal_low temps form into_memory (cell address) t whole found h low =
    both_low (address_match temps form.addr (cell address)) (matched temps form.value t true) found h
    (λ f is. address_low temps form.addr (cell address) f is low.1) (λ g is. matched_low temps form.value t true g is low.2)
goal_low temps form into_memory (stored address) t whole found h low =
    both_low (address_match temps form.addr (stored address)) (matched temps form.value t false) found h
    (λ f is. address_low temps form.addr (stored address) f is low.1) (λ g is. matched_low temps form.value t false g is low.2)
goal_low temps form into_memory temporary t whole found h low =
    both_low (address_match temps form.addr temporary) (matched temps form.value t false) found h
    (λ f is. address_low temps form.addr temporary f is low.1) (λ g is. matched_low temps form.value t false g is low.2)
goal_low temps form (branches when_one to) tested t whole found h low = matched_low temps form.value t true found h low.2
goal_low temps form _ _ t whole found h low = absurd (cc)

-- what a low form leaves open is low
pub taken_low : (temps : ℕ) (form : FormModel) (destination : DestinationModel) (t : ExprModel) (whole : Bool) (found : MatchModel) → taken temps form destination t whole ≡ Some found → IsLow form → AreLowLeaves found.leaves
taken_low temps form destination t whole found h low = goal_low temps form form.goal destination t whole found h low
