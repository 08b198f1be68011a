-- Where subtrees stand among the numbered trees of a job.
use Rattle.std.proofs.Common.{◌≡◌, ℕ, zero, suc, ◌+◌, List, [], ◌∷◌, ◌++◌, length, Some, arith, refl, sym, ap, ◌∙◌, subst, inl, inr, true, false, ◌-◌, ◌<◌, ◌≤◌, replicate}
use Rattle.std.specs.Prelude.{slice_get, remove, ◌==◌}
use Rattle.std.proofs.lemmas.Bool.Decides.{nat_tests}
use Rattle.std.proofs.lemmas.List.{length-replicate}
use Rattle.std.proofs.lemmas.Option.{slice_get_within}
use Rattle.rec_bits.proofs.Lists.{get_right}
use Rattle.net_model.specs.Exprs.{ExprModel, zext, size_of}
use Rattle.tree_grammar.specs.Numbers.{subtrees, HoldsSubtrees}
use Rattle.tree_grammar.specs.Leaves.{Stands, value_at}
use Rattle.tree_grammar.proofs.NumberLemmas.{size_length, holds_here}
use Rattle.form_model.specs.Forms.{DestinationModel, into, filed, cell, stored, temporary, tested}
use Rattle.tree_sharing.specs.Sharing.{job_nodes}
use Rattle.tree_sharing.proofs.NodeLemmas.{get_split, nodes_hold, whole_tree, from_start}
use Rattle.least_costs.specs.declared.slots.Slot.{Slot}
use Rattle.least_costs.specs.declared.slots.Slot.TheVariants.{Register, File, Temporary}
use Rattle.least_costs.specs.declared.opened.OpenOperand.{OpenOperand}
use Rattle.form_model.specs.Trees.{model_of_tree}
use Rattle.least_costs.specs.Slots.{entry_destination}
use Rattle.least_costs.specs.Subgoals.{operands_size}
use Rattle.least_costs.specs.Searches.{open_operands, EachOperandAt, OperandsAt}
use Rattle.least_costs.proofs.SizeLemmas.{size_pos}

pub slot_stands : (nodes : List ExprModel) (n : ℕ) (s : Slot) (t : ExprModel) → HoldsSubtrees nodes n t → Stands nodes n (entry_destination s) t
slot_stands nodes n (Register r) t h = record { address = tt; value = h }
slot_stands nodes n File t h = record { address = tt; value = h }
slot_stands nodes n Temporary t h = record { address = tt; value = h }

-- ---- the number of the whole tree

get_any : (xs : List ExprModel) (n : ℕ) → n < length xs → (x : ExprModel) × (slice_get xs n ≡ Some x)
get_any [] n lt = absurd (omega (arith, lt))
get_any (x ∷ xs) zero lt = (x, refl)
get_any (x ∷ xs) (suc n) lt = get_any xs n (omega (arith, lt))

filler : (n : ℕ) (x p : ExprModel) (at : ℕ) → slice_get (replicate n x) at ≡ Some p → p ≡ x
filler zero x p at h = absurd (cc)
filler (suc n) x p zero h = cc
filler (suc n) x p (suc at) h = filler n x p at h

-- a tree whose subtrees stand among the nodes has no more of them than there are nodes
holds_size : (nodes : List ExprModel) (n : ℕ) (t : ExprModel) → HoldsSubtrees nodes n t → n + size_of t ≤ length nodes
holds_size nodes n t h =
    let pos = size_pos t in
    let len = size_length t in
    let (x, last) = get_any (subtrees t) (size_of t - 1) (omega (arith, pos, len)) in
    let within = slice_get_within nodes (n + (size_of t - 1)) x (h (size_of t - 1) x last) in
    omega (arith, within, pos)

pub node_size : (destination : DestinationModel) (u t : ExprModel) (n : ℕ) → slice_get (job_nodes destination u) n ≡ Some t → size_of t ≤ length (job_nodes destination u)
node_size destination u t n get = let h = holds_size (job_nodes destination u) n t (nodes_hold destination u n t get) in omega (arith, h)

-- so it is with that of a destination and that of its value together
pub stands_size : (nodes : List ExprModel) (at : ℕ) (destination : DestinationModel) (t : ExprModel) → Stands nodes at destination t → value_at destination 0 + size_of t ≤ length nodes
stands_size nodes at (stored a) t s = let h = holds_size nodes (at + size_of a) t s.value in omega (arith, h)
stands_size nodes at (into id) t s = let h = holds_size nodes at t s.value in omega (arith, h)
stands_size nodes at filed t s = let h = holds_size nodes at t s.value in omega (arith, h)
stands_size nodes at (cell a) t s = let h = holds_size nodes at t s.value in omega (arith, h)
stands_size nodes at temporary t s = let h = holds_size nodes at t s.value in omega (arith, h)
stands_size nodes at tested t s = let h = holds_size nodes at t s.value in omega (arith, h)

-- a subtree that isn't the first is smaller than the tree
smaller : (t p : ExprModel) (k : ℕ) → slice_get (subtrees t) (suc k) ≡ Some p → size_of p < size_of t
smaller t p k h =
    let pos = size_pos p in
    let lp = size_length p in
    let (x, last) = get_any (subtrees p) (size_of p - 1) (omega (arith, pos, lp)) in
    let within = slice_get_within (subtrees t) (suc k + (size_of p - 1)) x (whole_tree t (suc k) p (size_of p - 1) x h last) in
    let lt = size_length t in
    omega (arith, within, lt, pos)

-- a part that stands at its number wherever the tree's subtrees stand is the whole tree exactly
-- where its number is the tree's
pub whole_number : (number at : ℕ) (t p : ExprModel) → ((nodes : List ExprModel) → HoldsSubtrees nodes number t → slice_get nodes at ≡ Some p) → (at == number) ≡ (size_of p == size_of t)
whole_number number at t p stands =
    let before = replicate number (zext p 0) in
    let len = length-replicate number (zext p 0) in
    let there = stands (before ++ subtrees t) (λ k s get. (let e : number + k ≡ length before + k = omega (arith, len) in ap (slice_get (before ++ subtrees t)) e ∙ get_right before (subtrees t) k ∙ get)) in
    elim (get_split before (subtrees t) at p there) [
      | inl a ↦ absurd (let e = ap size_of (filler number (zext p 0) p at a) in omega (arith, e))
      | inr b ↦ behind b.0 (let e = b.1 in omega (arith, e, len)) b.2
    ]
  where
    behind : (m : ℕ) → at ≡ number + m → slice_get (subtrees t) m ≡ Some p → (at == number) ≡ (size_of p == size_of t)
    behind zero e get =
        let first = holds_here (subtrees t) 0 t (from_start (subtrees t)) in
        let same : p ≡ t = cc in
        let s = ap size_of same in
        let x : (at == number) ≡ true = grind (arith, nat_tests) in
        let y : (size_of p == size_of t) ≡ true = grind (arith, nat_tests) in
        x ∙ sym y
    behind (suc k) e get =
        let lt = smaller t p k get in
        let x : (at == number) ≡ false = grind (arith, nat_tests) in
        let y : (size_of p == size_of t) ≡ false = grind (arith, nat_tests) in
        x ∙ sym y

-- ---- numbers of operands and cuts

each_get : (nodes : List ExprModel) (is : List OpenOperand) (i : ℕ) (x : OpenOperand) → EachOperandAt nodes is → slice_get is i ≡ Some x → slice_get nodes x.at ≡ Some (model_of_tree x.tree.now)
each_get nodes [] i x h get = absurd (cc)
each_get nodes (y ∷ is) zero x h get = let e : y ≡ x = cc in subst (λ (z : OpenOperand). slice_get nodes z.at ≡ Some (model_of_tree z.tree.now)) e h.0
each_get nodes (y ∷ is) (suc i) x h get = each_get nodes is i x h.1 get

pub input_get : (nodes : List ExprModel) (is : List OpenOperand) (i : ℕ) (x : OpenOperand) → OperandsAt nodes is → slice_get is i ≡ Some x → slice_get nodes x.at ≡ Some (model_of_tree x.tree.now)
input_get nodes is i x h get = each_get nodes is i x h.0 get

each_remove : (nodes : List ExprModel) (is : List OpenOperand) (i : ℕ) → EachOperandAt nodes is → EachOperandAt nodes (remove is i)
each_remove nodes [] zero h = tt
each_remove nodes [] (suc i) h = tt
each_remove nodes (y ∷ is) zero h = h.1
each_remove nodes (y ∷ is) (suc i) h = (h.0, each_remove nodes is i h.1)

remove_size : (is : List OpenOperand) (i : ℕ) → operands_size (open_operands (remove is i)) ≤ operands_size (open_operands is)
remove_size [] zero = omega arith
remove_size [] (suc i) = omega arith
remove_size (y ∷ is) zero = omega arith
remove_size (y ∷ is) (suc i) = let h = remove_size is i in omega (arith, h)

pub inputs_remove : (nodes : List ExprModel) (is : List OpenOperand) (i : ℕ) → OperandsAt nodes is → OperandsAt nodes (remove is i)
inputs_remove nodes is i h = (each_remove nodes is i h.0, (let le = remove_size is i in let few = h.1 in omega (arith, le, few)))
