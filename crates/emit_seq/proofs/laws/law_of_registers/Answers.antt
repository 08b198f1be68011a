use Rattle.emit_seq.proofs.Spared.{steps_spare}
use Rattle.emit_seq.proofs.laws.law_of_registers.Goals as goal

pub returns : goal.returns
returns c = steps_spare
