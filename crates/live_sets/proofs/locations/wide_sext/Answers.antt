use Rattle.live_sets.proofs.Bits.{shifts_order}
use Rattle.live_sets.proofs.locations.wide_sext.Goals as goal

pub overflow_sub-result : goal.overflow_sub-result
overflow_sub-result c = shifts_order c.args.from c.args.to c.requires.order c.requires.high
