use Rattle.std.proofs.Common.{◌≡◌, true}
use Rattle.net_model.specs.Exprs.{model_of_expr}
use Rattle.form_model.specs.Shapes.{shows_below}
use Rattle.tree_grammar.proofs.shapes.shows_each.Given as goal

abbrev pub invariant-loop-value : goal.invariant-loop-value
invariant-loop-value l = shows_below (model_of_expr l.shape) l.value ≡ true
