use Rattle.std.proofs.Common.{◌≡◌, ◌++◌, drop, length, take}
use Rattle.checkpoint_watch.proofs.writer.copy_cells.Given as goal

abbrev pub invariant-loop-index : goal.invariant-loop-index
invariant-loop-index l = record {
  copied : l.last_cells ≡ take l.index (drop l.address l.sim.state.cells) ++ drop l.index l.initial.last_cells;
  long : length l.last_cells ≡ length l.initial.last_cells;
}
