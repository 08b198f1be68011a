-- The expression of an id has at most as many levels as its pool has nodes.
use Rattle.std.proofs.Common.{ℕ, suc, ◌≤◌, ◌==◌, if◌then◌else◌, Bool, true, false, List, [], ◌∷◌, length, reverse, subst, arith}
use Rattle.std.proofs.lemmas.List.{length-reverse}
use Rattle.net_model.specs.Exprs.{ExprModel}
use Rattle.sym_expr.specs.declared.pool.Node.{Node}
use Rattle.sym_expr.specs.declared.pool.Node.TheVariants.{Word, Reg, Const, Read, Cell, Un, Bin, Slice, Cat, Zext, Sext, Select}
use Rattle.sym_expr.specs.Pools.{ExprFits, node_expr, expr_of_id, expr_of_newest}
use Rattle.operand_swaps.specs.Swaps.{levels}

levels-node : (node : Node) (t : ℕ → ExprModel) (n : ℕ) → ((id : ℕ) → ExprFits (t id) → levels (t id) ≤ n) → ExprFits (node_expr node t) → levels (node_expr node t) ≤ suc n
levels-node (Word w) t n h fits = omega arith
levels-node (Reg r w) t n h fits = omega arith
levels-node (Const w v) t n h fits = omega arith
levels-node (Read a w) t n h fits = omega (arith, h a fits.0)
levels-node (Cell a w) t n h fits = omega (arith, h a fits.0)
levels-node (Un o a) t n h fits = omega (arith, h a fits)
levels-node (Bin o a b) t n h fits = omega (arith, h a fits.0, h b fits.1)
levels-node (Slice a hi lo) t n h fits = omega (arith, h a fits.0)
levels-node (Cat a b) t n h fits = omega (arith, h a fits.0, h b fits.1)
levels-node (Zext a w) t n h fits = omega (arith, h a fits.0)
levels-node (Sext a w) t n h fits = omega (arith, h a fits.0)
levels-node (Select c a b) t n h fits = omega (arith, h c fits.0, h a fits.1, h b fits.2)

levels-either : (here : Bool) (a b : ExprModel) (n : ℕ) → (ExprFits a → levels a ≤ suc n) → (ExprFits b → levels b ≤ n)
    → ExprFits (if here then a else b) → levels (if here then a else b) ≤ suc n
levels-either true a b n p q fits = p fits
levels-either false a b n p q fits = omega (arith, q fits)

levels-newest : (nodes : List Node) (id : ℕ) → ExprFits (expr_of_newest nodes id) → levels (expr_of_newest nodes id) ≤ length nodes
unfolding expr_of_newest
levels-newest [] id fits = absurd (omega (arith, fits.0))
levels-newest (node ∷ older) id fits =
    levels-either (id == length older) (node_expr node (expr_of_newest older)) (expr_of_newest older id) (length older)
    (levels-node node (expr_of_newest older) (length older) (levels-newest older)) (levels-newest older id) fits

pub levels-at : (nodes : List Node) (id : ℕ) → ExprFits (expr_of_id nodes id) → levels (expr_of_id nodes id) ≤ length nodes
unfolding expr_of_id
levels-at nodes id fits = subst (λ n. levels (expr_of_newest (reverse nodes) id) ≤ n) (length-reverse nodes) (levels-newest (reverse nodes) id fits)
