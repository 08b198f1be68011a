use Rattle.std.proofs.Common.{ℕ, ◌<◌}
use Rattle.check_command.specs.Inner.Ascending.{SayOf}
use Rattle.check_command.specs.Views.{IsRightView}
use Rattle.check_command.proofs.views.view_fault.Given as goal

abbrev pub invariant-loop-at : goal.invariant-loop-at
invariant-loop-at l =
    ((k : ℕ) → k < l.at → IsRightView l.checked.netlist l.image l.views k) × SayOf l.views l.image.marks l.marks l.at
