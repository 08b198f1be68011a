use Rattle.src_check.proofs.Ranges.{bounded_sums, bounded_differences}
use Rattle.src_check.proofs.indexes.range_by.Goals as goal

pub returns-in-Some-Some-clause-ends : goal.returns-in-Some-Some-clause-ends
returns-in-Some-Some-clause-ends c = bounded_sums c.in-Some-Some.left c.in-Some-Some.right c.range_add.result c.range_add.ensures

pub returns-in-Some-Some-2-clause-ends : goal.returns-in-Some-Some-2-clause-ends
returns-in-Some-Some-2-clause-ends c = bounded_differences c.in-Some-Some-2.left c.in-Some-Some-2.right c.range_sub.result c.range_sub.ensures
