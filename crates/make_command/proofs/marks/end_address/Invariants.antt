use Rattle.std.proofs.Common.{◌≡◌, drop}
use Rattle.make_command.specs.Inner.Marks.{end_address}
use Rattle.make_command.proofs.marks.end_address.Given as goal

abbrev pub invariant-loop-mark : goal.invariant-loop-mark
invariant-loop-mark l = end_address (drop l.mark-index l.marks) ≡ end_address l.marks
