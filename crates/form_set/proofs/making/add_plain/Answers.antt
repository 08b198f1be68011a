use Rattle.std.proofs.Common.{arith}
use Rattle.std.proofs.lemmas.Grind.{common_steps}
use Rattle.form_set.proofs.making.add_plain.Goals as goal

pub loop-choice-preserved : goal.loop-choice-preserved
loop-choice-preserved c = grind (arith, common_steps)
