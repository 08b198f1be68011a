use Rattle.std.proofs.Common.{length}
use Rattle.mark_start.proofs.run.Start.+all_elements.Given as goal

abbrev pub decreases-all_elements : goal.decreases-all_elements
decreases-all_elements l = length l.trees.now
