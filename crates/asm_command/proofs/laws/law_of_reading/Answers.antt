use Rattle.asm_command.proofs.Again.{reads_again}
use Rattle.asm_command.proofs.laws.law_of_reading.Goals as goal

pub returns : goal.returns
returns c = reads_again
