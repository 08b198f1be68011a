use Rattle.std.proofs.Common.{◌+◌, ◌*◌}
use Rattle.segment.proofs.run.Segment.+cross.Given as goal

abbrev pub decreases-crosses : goal.decreases-crosses
decreases-crosses l = 2 * l.branches + 1

abbrev pub decreases-branches : goal.decreases-branches
decreases-branches l = 2 * l.branches
