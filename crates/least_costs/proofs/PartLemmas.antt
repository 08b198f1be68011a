-- Operands and cuts of a match's parts, and their numbers.
use Rattle.std.proofs.Common.{◌≡◌, ℕ, zero, suc, List, [], ◌∷◌, ◌++◌, Some, arith, refl, sym, ap, ◌∙◌, subst, rules}
use Rattle.std.specs.Prelude.{slice_get}
use Rattle.std.proofs.lemmas.List.{map-append}
use Rattle.net_model.specs.Exprs.{ExprModel}
use Rattle.form_model.specs.Matches.{LeafModel, operand, cut}
use Rattle.form_model.specs.Covers.{Operand, operands_of, cuts_of}
use Rattle.form_model.specs.Trees.{model_of_tree}
use Rattle.form_model.proofs.Counts.{operands-append}
use Rattle.tree_grammar.specs.declared.parts.Leaf.{Leaf}
use Rattle.tree_grammar.specs.declared.parts.Leaf.TheVariants
use Rattle.tree_grammar.specs.Leaves.{model_of_leaf, models_of_leaves, AreAt, IsPartAt}
use Rattle.least_costs.specs.declared.opened.OpenOperand.{OpenOperand}
use Rattle.least_costs.specs.declared.opened.OpenCut.{OpenCut}
use Rattle.least_costs.specs.Subgoals.{operands_size, exprs_size}
use Rattle.least_costs.specs.Matched.{AreLowLeaves}
use Rattle.least_costs.specs.Searches.{open_operand, open_operands, open_cuts, EachOperandAt, EachCutAt, OperandsAt, CutsAt, AreParts, HasOperand, HasCut}

cuts-append : (xs ys : List LeafModel) → cuts_of (xs ++ ys) ≡ cuts_of xs ++ cuts_of ys
cuts-append [] ys = refl
cuts-append (operand id tree whole ∷ xs) ys = cuts-append xs ys
cuts-append (cut shape tree ∷ xs) ys = ap (λ l. tree ∷ l) (cuts-append xs ys)

are_first : (nodes : List ExprModel) (xs : List Leaf) (p : Leaf) → AreAt nodes (xs ++ (p ∷ [])) → AreAt nodes xs
are_first nodes [] p h = tt
are_first nodes (x ∷ xs) p h = (h.0, are_first nodes xs p h.1)

are_last : (nodes : List ExprModel) (xs : List Leaf) (p : Leaf) → AreAt nodes (xs ++ (p ∷ [])) → IsPartAt nodes p
are_last nodes [] p h = h.0
are_last nodes (x ∷ xs) p h = are_last nodes xs p h.1

inputs_push : (nodes : List ExprModel) (xs : List OpenOperand) (i : OpenOperand) → EachOperandAt nodes xs → EachOperandAt nodes (i ∷ []) → EachOperandAt nodes (xs ++ (i ∷ []))
inputs_push nodes [] i h k = k
inputs_push nodes (x ∷ xs) i h k = (h.0, inputs_push nodes xs i h.1 k)

stored_push : (nodes : List ExprModel) (xs : List OpenCut) (i : OpenCut) → EachCutAt nodes xs → EachCutAt nodes (i ∷ []) → EachCutAt nodes (xs ++ (i ∷ []))
stored_push nodes [] i h k = k
stored_push nodes (x ∷ xs) i h k = (h.0, stored_push nodes xs i h.1 k)

input_is : (p : Leaf) (old new : List OpenOperand) → HasOperand p old new → open_operands new ≡ open_operands old ++ operands_of (model_of_leaf p ∷ [])
input_is (TheVariants.Operand id tree whole at) old new (i, e, is, h) =
    ap open_operands e ∙ map-append open_operand old (i ∷ []) ∙ ap (λ o. open_operands old ++ (o ∷ [])) is
input_is (TheVariants.Cut shape tree at) old new h = ap open_operands h ∙ (let xs = open_operands old in search rules)

stored_is : (p : Leaf) (old new : List OpenCut) → HasCut p old new → open_cuts new ≡ open_cuts old ++ cuts_of (model_of_leaf p ∷ [])
stored_is (TheVariants.Operand id tree whole at) old new h = ap open_cuts h ∙ (let xs = open_cuts old in search rules)
stored_is (TheVariants.Cut shape tree at) old new h = ap open_cuts h ∙ map-append _ old _

pub input_step : (p : Leaf) (old new : List OpenOperand) (xs : List Leaf) → HasOperand p old new → open_operands old ≡ operands_of (models_of_leaves xs) → open_operands new ≡ operands_of (models_of_leaves (xs ++ (p ∷ [])))
input_step p old new xs h e =
    input_is p old new h ∙ ap (λ l. l ++ operands_of (model_of_leaf p ∷ [])) e ∙ sym (operands-append (models_of_leaves xs) (model_of_leaf p ∷ [])) ∙ ap operands_of (sym (map-append model_of_leaf xs (p ∷ [])))

pub stored_step : (p : Leaf) (old new : List OpenCut) (xs : List Leaf) → HasCut p old new → open_cuts old ≡ cuts_of (models_of_leaves xs) → open_cuts new ≡ cuts_of (models_of_leaves (xs ++ (p ∷ [])))
stored_step p old new xs h e =
    stored_is p old new h ∙ ap (λ l. l ++ cuts_of (model_of_leaf p ∷ [])) e ∙ sym (cuts-append (models_of_leaves xs) (model_of_leaf p ∷ [])) ∙ ap cuts_of (sym (map-append model_of_leaf xs (p ∷ [])))

input_put : (nodes : List ExprModel) (p : Leaf) (old new : List OpenOperand) → HasOperand p old new → IsPartAt nodes p → EachOperandAt nodes old → EachOperandAt nodes new
input_put nodes (TheVariants.Operand id tree whole at) old new (i, e, is, h) here k =
    let there : slice_get nodes i.at ≡ Some (model_of_tree i.tree.now) = ap (slice_get nodes) h ∙ here ∙ ap (λ (o : Operand). Some o.tree) (sym is) in
    subst (EachOperandAt nodes) (sym e) (inputs_push nodes old i k (there, tt))
input_put nodes (TheVariants.Cut shape tree at) old new h here k = subst (EachOperandAt nodes) (sym h) k

stored_put : (nodes : List ExprModel) (p : Leaf) (old new : List OpenCut) → HasCut p old new → IsPartAt nodes p → EachCutAt nodes old → EachCutAt nodes new
stored_put nodes (TheVariants.Operand id tree whole at) old new h here k = subst (EachCutAt nodes) (sym h) k
stored_put nodes (TheVariants.Cut shape tree at) old new h here k = subst (EachCutAt nodes) (sym h) (stored_push nodes old _ k (here, tt))

pub input_at : (p : Leaf) (old new : List OpenOperand) (xs : List Leaf) → HasOperand p old new → ((nodes : List ExprModel) → AreAt nodes xs → EachOperandAt nodes old) → (nodes : List ExprModel) → AreAt nodes (xs ++ (p ∷ [])) → EachOperandAt nodes new
input_at p old new xs h before nodes are = input_put nodes p old new h (are_last nodes xs p are) (before nodes (are_first nodes xs p are))

-- operands and cuts at their numbers, of which there are no more subtrees than nodes
pub parts_operands : (nodes : List ExprModel) (is : List OpenOperand) (ops : List Operand) (ts : List ExprModel) → AreParts nodes ops ts → open_operands is ≡ ops → EachOperandAt nodes is → OperandsAt nodes is
parts_operands nodes is ops ts parts e at = (at, (let n = ap operands_size e in omega (arith, n, parts)))

pub parts_cuts : (nodes : List ExprModel) (ss : List OpenCut) (ops : List Operand) (ts : List ExprModel) → AreParts nodes ops ts → open_cuts ss ≡ ts → EachCutAt nodes ss → CutsAt nodes ss
parts_cuts nodes ss ops ts parts e at = (at, (let n = ap exprs_size e in omega (arith, n, parts)))

-- the parts of low leaves are low
pub low_at : (parts : List Leaf) (i : ℕ) (p : Leaf) → AreLowLeaves (models_of_leaves parts) → slice_get parts i ≡ Some p → AreLowLeaves (model_of_leaf p ∷ [])
low_at [] i p h get = absurd (cc)
low_at (x ∷ parts) zero p h get = let e : x ≡ p = cc in subst (λ q. AreLowLeaves (model_of_leaf q ∷ [])) e (first (model_of_leaf x) (models_of_leaves parts) h)
  where
    first : (s : LeafModel) (leaves : List LeafModel) → AreLowLeaves (s ∷ leaves) → AreLowLeaves (s ∷ [])
    first (operand id tree whole) leaves h = (h.0, tt)
    first (cut shape tree) leaves h = tt
low_at (x ∷ parts) (suc i) p h get = low_at parts i p (later (model_of_leaf x) (models_of_leaves parts) h) get
  where
    later : (s : LeafModel) (leaves : List LeafModel) → AreLowLeaves (s ∷ leaves) → AreLowLeaves leaves
    later (operand id tree whole) leaves h = h.1
    later (cut shape tree) leaves h = h

pub stored_at : (p : Leaf) (old new : List OpenCut) (xs : List Leaf) → HasCut p old new → ((nodes : List ExprModel) → AreAt nodes xs → EachCutAt nodes old) → (nodes : List ExprModel) → AreAt nodes (xs ++ (p ∷ [])) → EachCutAt nodes new
stored_at p old new xs h before nodes are = stored_put nodes p old new h (are_last nodes xs p are) (before nodes (are_first nodes xs p are))
