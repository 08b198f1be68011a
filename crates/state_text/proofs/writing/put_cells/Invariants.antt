use Rattle.std.proofs.Common.{◌≡◌, ◌-◌, ◌≤◌, ◌++◌, drop, length}
use Rattle.std.specs.Prelude.{vec_capacity}
use Rattle.net_model.specs.Nets.{held}
use Rattle.state_text.specs.Shown.{cell_lines}
use Rattle.state_text.proofs.writing.put_cells.Given as goal

abbrev pub invariant-loop-value : goal.invariant-loop-value
invariant-loop-value l = record {
  text : l.out.items ++ cell_lines l.name l.address (drop l.address (held l.sim.state l.space)) ≡ l.initial.out.items ++ cell_lines l.name 0 (held l.sim.state l.space);
  room : vec_capacity l.initial.out ≤ vec_capacity l.out;
  within : l.address ≤ length (held l.sim.state l.space);
}

abbrev pub decreases-loop-value : goal.decreases-loop-value
decreases-loop-value l = length (held l.sim.state l.space) - l.address
