use Rattle.std.proofs.Common.{◌<◌, ◌∙◌, arith}
use Rattle.net_model.specs.Exprs.{model_of_expr}
use Rattle.tree_grammar.proofs.ShapeLemmas.{last_decides}
use Rattle.tree_grammar.proofs.shapes.shows_all.Goals as goal

pub returns-then-is_steady : goal.returns-then-is_steady
returns-then-is_steady c =
    let some : 0 < c.args.count = omega (arith, c.if-count-eq0.false) in
    c.shows_value.ensures ∙ last_decides (model_of_expr c.args.shape.now) c.args.count c.from.result some c.from.ensures c.if-is_steady.ensures
