use Rattle.src_check.proofs.Ranges.{bounded_products}
use Rattle.src_check.proofs.indexes.times.Goals as goal

pub returns-in-Some-clause-ends : goal.returns-in-Some-clause-ends
returns-in-Some-clause-ends c = bounded_products c.in-Some.range c.args.literal c.range_mul.result c.range_mul.ensures
