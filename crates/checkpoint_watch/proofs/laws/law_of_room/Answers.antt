use Rattle.checkpoint_watch.proofs.Rooms.{line_short}
use Rattle.checkpoint_watch.proofs.laws.law_of_room.Goals as goal

pub returns : goal.returns
returns c = line_short
