use Rattle.std.proofs.Common.{length}
use Rattle.class_values.proofs.numbers.+told_of.Given as goal

abbrev pub decreases-told_of : goal.decreases-told_of
decreases-told_of l = length l.facts.now
