-- Lists of operands and cuts as the code holds them.
use Rattle.std.proofs.Common.{◌≡◌, ℕ, zero, suc, ◌+◌, ◌-◌, ◌<◌, ◌≤◌, List, [], ◌∷◌, length, take, drop, Option, Some, arith, refl, ap, ◌∙◌, subst, Bool, true, false}
use Rattle.std.specs.Prelude.{slice_get, remove, if◌then◌else◌}
use Rattle.std.specs.Option.{option_map}
use Rattle.std.proofs.lemmas.List.{take_all}
use Rattle.std.proofs.lemmas.Option.{slice_get-map}
use Rattle.rec_bits.proofs.Equality.{number_self}
use Rattle.net_model.specs.Exprs.{ExprModel, size_of}
use Rattle.form_model.specs.Trees.{model_of_tree}
use Rattle.form_model.specs.Forms.{DestinationModel}
use Rattle.form_model.specs.Matches.{HomeModel, in_register, in_file}
use Rattle.form_model.specs.Covers.{StockModel, Operand}
use Rattle.least_costs.specs.declared.limits.Limits.{Limits}
use Rattle.least_costs.specs.declared.slots.Slot.TheVariants.{Temporary}
use Rattle.least_costs.specs.declared.opened.OpenOperand.{OpenOperand}
use Rattle.least_costs.specs.declared.opened.OpenCut.{OpenCut}
use Rattle.least_costs.specs.Subgoals.{is_free, operand_subgoal, operands_size, rank}
use Rattle.least_costs.specs.Least.{IsLeast}
use Rattle.least_costs.specs.Slots.{IsLowHome, IsSlot, home_slot}
use Rattle.least_costs.specs.Rows.{row_subgoal}
use Rattle.least_costs.specs.Searches.{open_operand, open_operands, open_cuts, OperandsAt, CutsAt}
use Rattle.least_costs.proofs.OfferLemmas.{slot_home}

pub inputs_at : (is : List OpenOperand) (i : ℕ) (x : OpenOperand) → slice_get is i ≡ Some x → slice_get (open_operands is) i ≡ Some (open_operand x)
inputs_at is i x h = slice_get-map open_operand is i ∙ ap (option_map open_operand) h

pub inputs_without : (is : List OpenOperand) (i : ℕ) → open_operands (remove is i) ≡ remove (open_operands is) i
inputs_without [] zero = refl
inputs_without [] (suc i) = refl
inputs_without (x ∷ is) zero = refl
inputs_without (x ∷ is) (suc i) = ap (λ l. open_operand x ∷ l) (inputs_without is i)

pub length_inputs : (is : List OpenOperand) → length (open_operands is) ≡ length is
length_inputs [] = refl
length_inputs (x ∷ is) = let h = length_inputs is in omega (arith, h)

pub no_inputs : (is : List OpenOperand) → length is ≡ 0 → open_operands is ≡ []
no_inputs [] h = refl
no_inputs (x ∷ is) h = absurd (omega (arith, h))

pub size-remove : (ops : List Operand) (i : ℕ) (o : Operand) → slice_get ops i ≡ Some o → operands_size (remove ops i) + size_of o.tree ≡ operands_size ops
size-remove [] i o h = absurd (cc)
size-remove (x ∷ xs) zero o h = let e : x ≡ o = cc in let n = ap (λ (y : Operand). size_of y.tree) e in omega (arith, n)
size-remove (x ∷ xs) (suc i) o h = let ih = size-remove xs i o h in omega (arith, ih)

pub inputs_split : (is : List OpenOperand) (x : OpenOperand) → slice_get is 0 ≡ Some x → open_operands is ≡ open_operand x ∷ open_operands (drop 1 is)
inputs_split [] x h = absurd (cc)
inputs_split (y ∷ is) x h = let e : y ≡ x = cc in ap (λ (z : OpenOperand). open_operand z ∷ open_operands is) e

pub lone_input : (is : List OpenOperand) (x : OpenOperand) → slice_get is 0 ≡ Some x → length is < 2 → open_operands is ≡ open_operand x ∷ []
lone_input [] x h few = absurd (cc)
lone_input (y ∷ []) x h few = let e : y ≡ x = cc in ap (λ (z : OpenOperand). open_operand z ∷ []) e
lone_input (y ∷ z ∷ is) x h few = absurd (omega (arith, few))

pub inputs_later : (nodes : List ExprModel) (is : List OpenOperand) → OperandsAt nodes is → OperandsAt nodes (drop 1 is)
inputs_later nodes [] h = h
inputs_later nodes (x ∷ is) h = (h.0.1, (let few = h.1 in omega (arith, few)))

pub no_stored : (ts : List OpenCut) → length ts ≡ 0 → open_cuts ts ≡ []
no_stored [] h = refl
no_stored (x ∷ ts) h = absurd (omega (arith, h))

pub stored_split : (ts : List OpenCut) (s : OpenCut) → slice_get ts 0 ≡ Some s → open_cuts ts ≡ model_of_tree s.tree.now ∷ open_cuts (drop 1 ts)
stored_split [] s h = absurd (cc)
stored_split (x ∷ ts) s h = let e : x ≡ s = cc in ap (λ (y : OpenCut). model_of_tree y.tree.now ∷ open_cuts ts) e

pub stored_first : (nodes : List ExprModel) (ts : List OpenCut) (s : OpenCut) → CutsAt nodes ts → slice_get ts 0 ≡ Some s → slice_get nodes s.at ≡ Some (model_of_tree s.tree.now)
stored_first nodes [] s h get = absurd (cc)
stored_first nodes (x ∷ ts) s h get = let e : x ≡ s = cc in subst (λ (y : OpenCut). slice_get nodes y.at ≡ Some (model_of_tree y.tree.now)) e h.0.0

pub stored_later : (nodes : List ExprModel) (ts : List OpenCut) → CutsAt nodes ts → CutsAt nodes (drop 1 ts)
stored_later nodes [] h = h
stored_later nodes (x ∷ ts) h = (h.0.1, (let few = h.1 in omega (arith, few)))

pub tail_is : {X : Type 0} (ts : List X) → take (length ts - 1) (drop 1 ts) ≡ drop 1 ts
tail_is [] = refl
tail_is (x ∷ ts) = take_all (length (x ∷ ts) - 1) ts (omega arith)

pub cut_slot : IsSlot false Temporary
cut_slot = refl

-- an entry of a row for an operand's home
pub home_entry : (whole : Bool) (home : HomeModel) → IsLowHome home → IsSlot whole (home_slot home)
home_entry whole (in_register id) h = h
home_entry whole (in_file shape) h = tt

-- what is asked for it is what is asked for an operand
pub home_ask : (t : ExprModel) (w : Bool) (x : Operand) → t ≡ x.tree → w ≡ x.whole → row_subgoal t w (home_slot x.home) ≡ operand_subgoal x
home_ask t w x et ew =
    ap (λ u. row_subgoal u w (home_slot x.home)) et ∙ ap (λ v. row_subgoal x.tree v (home_slot x.home)) ew
    ∙ ap (λ (p : DestinationModel). record { destination = p; tree = x.tree; whole = x.whole }) (slot_home x.home)

pub home_least : (stock : StockModel) (limits : Limits) (x : Operand) (o : Option ℕ) → IsLeast stock limits (row_subgoal x.tree x.whole (home_slot x.home)) o → IsLeast stock limits (operand_subgoal x) o
home_least stock limits x o is =
    subst (λ p. IsLeast stock limits (record { destination = p; tree = x.tree; whole = x.whole }) o) (slot_home x.home) is

pub rank_le : (file : ℕ) (limits : Limits) → rank file limits ≤ 1
rank_le file limits = go (is_free file limits)
  where
    go : (b : Bool) → (if b then 0 else 1) ≤ 1
    go true = omega arith
    go false = omega arith

-- where all is free
pub rank_free : (file : ℕ) → rank file (record { avoid = 0; allowed = file }) ≡ 0
rank_free file = ap (λ b. if b then 0 else 1) (number_self file)
