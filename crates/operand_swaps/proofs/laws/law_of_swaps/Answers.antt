use Rattle.operand_swaps.proofs.SwapLaws.{swapped_alike}
use Rattle.operand_swaps.proofs.laws.law_of_swaps.Goals as goal

pub returns : goal.returns
returns c = swapped_alike
