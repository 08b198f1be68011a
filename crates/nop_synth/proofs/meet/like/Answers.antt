use Rattle.std.proofs.Common.{arith}
use Rattle.std.proofs.lemmas.Grind.{common_steps}
use Rattle.nop_synth.proofs.meet.like.Goals as goal

pub returns-then-value-bit-eq1-clause-words : goal.returns-then-value-bit-eq1-clause-words
returns-then-value-bit-eq1-clause-words c = grind (arith, common_steps)

pub returns-in_err-zeros-clause-grows : goal.returns-in_err-zeros-clause-grows
returns-in_err-zeros-clause-grows c = grind (arith, common_steps)

pub returns-clause-grows : goal.returns-clause-grows
returns-clause-grows c = grind (arith, common_steps)

pub returns-clause-words : goal.returns-clause-words
returns-clause-words c = grind (arith, common_steps)
