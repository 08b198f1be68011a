use Rattle.transfer_set.proofs.ReadyLaws.{stays_ready}
use Rattle.transfer_set.proofs.laws.law_of_growth.Goals as goal

pub returns : goal.returns
returns c = stays_ready
