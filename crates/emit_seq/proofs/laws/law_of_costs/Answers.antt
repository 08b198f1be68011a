use Rattle.emit_seq.proofs.Counted.{steps_cost}
use Rattle.emit_seq.proofs.laws.law_of_costs.Goals as goal

pub returns : goal.returns
returns c = steps_cost
