use Rattle.class_values.proofs.Made.{number_made, same_holds}
use Rattle.class_values.proofs.numbers.literal_of.Goals as goal

pub returns-then-are_same : goal.returns-then-are_same
returns-then-are_same c memory f =
    same_holds c.args.table.now c.args.class c.in_ok-found.found (c.are_same.ensures c.if-are_same.true) memory c.in_ok-value.value
    (number_made c.args.table.now c.in_ok-width.width c.in_ok-value.value c.in_ok-found.found c.in_ok-found.ensures.stands memory).holds
