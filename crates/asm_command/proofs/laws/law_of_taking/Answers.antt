use Rattle.asm_command.proofs.Again.{is_taken}
use Rattle.asm_command.proofs.laws.law_of_taking.Goals as goal

pub returns : goal.returns
returns c = is_taken
