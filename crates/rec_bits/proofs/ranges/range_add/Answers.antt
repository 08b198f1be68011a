use Rattle.rec_bits.proofs.Ends.{sums_passed}
use Rattle.rec_bits.proofs.ranges.range_add.Goals as goal

pub returns : goal.returns
returns c = sums_passed c.args.a c.args.b _ c.requires.left c.requires.right c.bounded.ensures
