use Rattle.emit_seq.proofs.Settled.{branch_in, steps_of_forms}
use Rattle.emit_seq.proofs.laws.law_of_settings.Goals as goal

pub returns : goal.returns
returns c = record { steps = steps_of_forms; branch = branch_in }
