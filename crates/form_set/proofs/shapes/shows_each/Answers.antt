use Rattle.std.proofs.Common.{◌∙◌, sym}
use Rattle.sym_expr.specs.Pools.{expr_of_id}
use Rattle.form_set.proofs.ShapeShows.{one_missing}
use Rattle.form_set.proofs.shapes.shows_each.Goals as goal

pub returns-then-not-shape_shows : goal.returns-then-not-shape_shows
returns-then-not-shape_shows c =
    one_missing (expr_of_id c.args.pool.now c.args.expr) c.args.count c.loop-value.value c.from.result c.loop-value-test.true c.from.ensures
    (sym c.shape_shows.ensures ∙ c.if-not-shape_shows.true)
