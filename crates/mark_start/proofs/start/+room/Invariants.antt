use Rattle.std.proofs.Common.{length}
use Rattle.mark_start.proofs.start.+room.Given as goal

abbrev pub decreases-room : goal.decreases-room
decreases-room l = length l.spots.now
