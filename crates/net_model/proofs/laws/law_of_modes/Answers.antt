use Rattle.net_model.proofs.Clocking.{modes_are_fixed}
use Rattle.net_model.proofs.laws.law_of_modes.Goals as goal

pub returns : goal.returns
returns c = modes_are_fixed
