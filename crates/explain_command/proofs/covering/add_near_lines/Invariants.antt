use Rattle.explain_command.specs.Explained.{AreNearLines}
use Rattle.explain_command.specs.Inner.Telling.{Begins}
use Rattle.explain_command.proofs.covering.add_near_lines.Given as goal

abbrev pub invariant-loop-told : goal.invariant-loop-told
invariant-loop-told l = Begins AreNearLines AreNearLines l.initial.text.items l.text.items
