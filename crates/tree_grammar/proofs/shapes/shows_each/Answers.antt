use Rattle.std.proofs.Common.{sym, ap, ◌∙◌, ◌≡◌, false}
use Rattle.net_model.specs.Exprs.{model_of_expr}
use Rattle.form_model.specs.Shapes.{shows}
use Rattle.tree_grammar.proofs.ShapeLemmas.{never_below}
use Rattle.tree_grammar.proofs.shapes.shows_each.Goals as goal

pub returns-then-not-shows_value : goal.returns-then-not-shows_value
returns-then-not-shows_value c =
    let unshown : shows (model_of_expr c.args.shape.now) c.loop-value.value ≡ false =
    sym (c.if-not-shows_value.ensures ∙ ap (shows (model_of_expr c.args.shape.now)) c.from.ensures) in
    sym (never_below (model_of_expr c.args.shape.now) c.args.count c.loop-value.value c.loop-value-test.true unshown)
