use Rattle.net_model.proofs.Effects.{moved}
use Rattle.net_model.proofs.laws.law_of_transfers.Goals as goal

pub returns : goal.returns
returns c = λ netlist words word s sound state clean here. moved netlist words word s sound state clean here
