use Rattle.checkpoint_watch.proofs.Ends.{end_meant, end_shown}
use Rattle.checkpoint_watch.proofs.laws.law_of_ends.Goals as goal

pub returns : goal.returns
returns c = λ netlist image width program s right here. (end_shown netlist image width program right s here, end_meant netlist image width program right s here)
