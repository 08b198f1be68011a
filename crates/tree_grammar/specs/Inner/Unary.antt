-- Operators of one operand, in a form's expression and in a tree.
use Rattle.std.specs.Prelude.{◌==◌, ◌&&◌, if◌then◌else◌, Option, Some, None}
use Rattle.net_model.specs.Exprs.{ExprModel, un, slice, zext, sext, model_of_expr, expr_width}
use Rattle.form_model.specs.Matches.{same_op1}
use Rattle.form_model.specs.Trees.{model_of_tree}
use Rattle.tree_grammar.specs.declared.terms.Pair.{Pair}

-- an expression of a form, and a tree that it has to match
pub record PairModel : Type 0 where
  pub expr : ExprModel
  pub tree : ExprModel

abbrev pub model_of_pair : Pair → PairModel
model_of_pair pair = record { expr = model_of_expr pair.expr.now; tree = model_of_tree pair.tree.now }

-- the operands, where the operators and the widths are equal
abbrev pub unary_operands : ExprModel → ExprModel → Option PairModel
unary_operands (un op a) (un o b) = if same_op1 o op then Some (record { expr = a; tree = b }) else None
unary_operands (slice a hi lo) (slice b h l) =
    if (expr_width b == expr_width a) && ((h == hi) && (l == lo)) then Some (record { expr = a; tree = b }) else None
unary_operands (zext a width) (zext b w) =
    if (expr_width b == expr_width a) && (w == width) then Some (record { expr = a; tree = b })
    else None
unary_operands (sext a width) (sext b w) =
    if (expr_width b == expr_width a) && (w == width) then Some (record { expr = a; tree = b })
    else None
unary_operands _ _ = None
