use Rattle.std.proofs.Common.{◌≡◌, ◌++◌, take}
use Rattle.std.specs.List.{flat_map}
use Rattle.make_command.specs.Summary.{variable_line}
use Rattle.make_command.proofs.summary.put_variables.Given as goal

abbrev pub invariant-loop-place : goal.invariant-loop-place
invariant-loop-place l = l.out.items ≡ l.initial.out.items ++ flat_map (variable_line l.sim.state.cells) (take l.place-index l.places)
