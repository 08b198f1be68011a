use Rattle.emit_seq.proofs.Leaving.{leave_value}
use Rattle.emit_seq.proofs.laws.law_of_values.Goals as goal

pub returns : goal.returns
returns c = leave_value
