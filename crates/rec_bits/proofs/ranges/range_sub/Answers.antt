use Rattle.rec_bits.proofs.Ends.{differences_passed}
use Rattle.rec_bits.proofs.ranges.range_sub.Goals as goal

pub returns : goal.returns
returns c = differences_passed c.args.a c.args.b _ c.requires.left c.requires.right c.bounded.ensures
