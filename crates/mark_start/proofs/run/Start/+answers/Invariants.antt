use Rattle.std.proofs.Common.{length}
use Rattle.mark_start.proofs.run.Start.+answers.Given as goal

abbrev pub decreases-answers : goal.decreases-answers
decreases-answers l = length l.trees.now
