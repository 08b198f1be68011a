use Rattle.std.proofs.Common.{sym, ◌∙◌}
use Rattle.class_values.proofs.LowBits.{unary_makes}
use Rattle.class_values.proofs.low.unary_of.Goals as goal

pub returns-then-are_same : goal.returns-then-are_same
returns-then-are_same c =
    let unary = c.in_ok-unary.unary in
    let width = c.in_ok-width.ensures in
    let own = c.in_ok-own.ensures in
    unary_makes c.args.table.now unary.op unary.of c.args.class c.in_ok-found.found width.0 own.0 (sym own.1 ∙ sym c.if-width-own.true ∙ width.1) (c.are_same.ensures c.if-are_same.true) c.in_ok-found.ensures.stands
