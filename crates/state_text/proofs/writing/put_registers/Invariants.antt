use Rattle.std.proofs.Common.{◌≡◌, ◌≤◌, ◌++◌, drop}
use Rattle.std.specs.Prelude.{vec_capacity}
use Rattle.state_text.specs.Shown.{register_lines}
use Rattle.state_text.proofs.writing.put_registers.Given as goal

abbrev pub invariant-loop-id : goal.invariant-loop-id
invariant-loop-id l = record {
  text : l.out.items ++ register_lines l.sim.state.regs l.id (drop l.id l.storages) ≡ l.initial.out.items ++ register_lines l.sim.state.regs 0 l.storages;
  room : vec_capacity l.initial.out ≤ vec_capacity l.out;
}
