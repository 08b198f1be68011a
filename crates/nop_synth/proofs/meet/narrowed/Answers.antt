use Rattle.std.proofs.Common.{arith}
use Rattle.std.proofs.lemmas.Grind.{common_steps}
use Rattle.nop_synth.proofs.meet.narrowed.Goals as goal

pub returns-then-field-bit-eq1-clause-words : goal.returns-then-field-bit-eq1-clause-words
returns-then-field-bit-eq1-clause-words c = grind (arith, common_steps)

pub returns-clause-words : goal.returns-clause-words
returns-clause-words c = grind (arith, common_steps)
