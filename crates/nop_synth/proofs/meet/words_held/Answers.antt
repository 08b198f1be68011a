use Rattle.std.proofs.Common.{arith}
use Rattle.std.proofs.lemmas.Grind.{common_steps}
use Rattle.nop_synth.proofs.meet.words_held.Goals as goal

pub returns-in_err-fitting-clause-grows : goal.returns-in_err-fitting-clause-grows
returns-in_err-fitting-clause-grows c = grind (arith, common_steps)

pub returns-clause-grows : goal.returns-clause-grows
returns-clause-grows c = grind (arith, common_steps)
