use Rattle.asm_command.proofs.Again.{clocks_alike}
use Rattle.asm_command.proofs.laws.law_of_clocks.Goals as goal

pub returns : goal.returns
returns c = clocks_alike
