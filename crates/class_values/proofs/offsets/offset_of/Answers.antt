use Rattle.class_values.proofs.Offsetting.{sum_offset}
use Rattle.class_values.proofs.offsets.offset_of.Goals as goal

pub returns-in-Some : goal.returns-in-Some
returns-in-Some c = sum_offset c.args.table.now c.args.facts.now c.args.class c.in_ok-width.width c.in-Some.sum.base c.in-Some.sum.by c.in-Some.sum.number c.in-Some.ensures
