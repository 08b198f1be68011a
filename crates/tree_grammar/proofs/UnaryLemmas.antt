-- The subtrees of an operator of one operand.
use Rattle.std.proofs.Common.{◌≡◌, ◌==◌, ◌&&◌, Bool, true, false, cond, ◌∷◌, Option, Some, None, ap}
use Rattle.net_model.specs.Exprs.{ExprModel, const, un, slice, zext, sext, expr_width}
use Rattle.form_model.specs.Matches.{same_op1}
use Rattle.tree_grammar.specs.Numbers.{subtrees}
use Rattle.tree_grammar.specs.Inner.Unary.{PairModel, unary_operands}

abbrev tree_in : Option PairModel → ExprModel
tree_in None = const 0 0
tree_in (Some pair) = pair.tree

tree_where : (b : Bool) (e t : ExprModel) (pair : PairModel) → cond b (Some (record { expr = e; tree = t })) None ≡ Some pair → t ≡ pair.tree
tree_where true e t pair h = ap tree_in h
tree_where false e t pair h = absurd (cc)

pub unary_subtrees : (e t : ExprModel) (pair : PairModel) → unary_operands e t ≡ Some pair → subtrees t ≡ t ∷ subtrees pair.tree
unary_subtrees (un op a) (un o b) pair h = ap (λ x. un o b ∷ subtrees x) (tree_where (same_op1 o op) a b pair h)
unary_subtrees (slice a hi lo) (slice b i l) pair h =
    ap (λ x. slice b i l ∷ subtrees x) (tree_where ((expr_width b == expr_width a) && ((i == hi) && (l == lo))) a b pair h)
unary_subtrees (zext a width) (zext b w) pair h =
    ap (λ x. zext b w ∷ subtrees x) (tree_where ((expr_width b == expr_width a) && (w == width)) a b pair h)
unary_subtrees (sext a width) (sext b w) pair h =
    ap (λ x. sext b w ∷ subtrees x) (tree_where ((expr_width b == expr_width a) && (w == width)) a b pair h)
unary_subtrees _ _ pair h = absurd (cc)
