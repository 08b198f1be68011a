use Rattle.std.proofs.Common.{sym, ◌∙◌}
use Rattle.class_values.proofs.Multiplying.{product_is}
use Rattle.class_values.proofs.multiples.product_of.Goals as goal

pub returns-then-are_same : goal.returns-then-are_same
returns-then-are_same c =
    let factors = c.in_ok-factors.factors in
    let times = c.in_ok-times.times in
    let width = c.in_ok-width.ensures in
    let own = c.in_ok-own.ensures in
    let wide = sym c.if-times-width.true in
    product_is c.args.table.now factors.first factors.last times.width times.number c.args.class c.in_ok-found.found c.in_ok-times.ensures width.0 own.0
    (sym width.1 ∙ wide) (sym own.1 ∙ c.if-own-width.true ∙ wide) (c.are_same.ensures c.if-are_same.true) c.in_ok-found.ensures.stands
