use Rattle.std.proofs.Common.{◌≡◌, ◌≤◌, ◌++◌, drop, length, take}
use Rattle.std.specs.Prelude.{vec_capacity}
use Rattle.checkpoint_watch.specs.Texts.{changes_from}
use Rattle.checkpoint_watch.proofs.line.put_cells.Given as goal

abbrev pub invariant-loop-index : goal.invariant-loop-index
invariant-loop-index l = record {
  text : l.line.items ++ changes_from l.var l.index (drop l.index l.olds) (drop l.index (take (length l.olds) (drop l.address l.sim.state.cells)))
      ≡ l.initial.line.items ++ changes_from l.var 0 l.olds (take (length l.olds) (drop l.address l.sim.state.cells));
  room : vec_capacity l.initial.line ≤ vec_capacity l.line;
}
