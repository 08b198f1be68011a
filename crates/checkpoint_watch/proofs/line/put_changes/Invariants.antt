use Rattle.std.proofs.Common.{◌≡◌, ◌≤◌, ◌+◌, ◌++◌, drop, length}
use Rattle.std.specs.Prelude.{vec_capacity}
use Rattle.src_model.specs.Meaning.{cell_count}
use Rattle.checkpoint_watch.specs.Texts.{changes, store_from}
use Rattle.checkpoint_watch.proofs.line.put_changes.Given as goal

abbrev pub invariant-loop-var : goal.invariant-loop-var
invariant-loop-var l = record {
  text : l.line.items ++ changes (drop l.var-index l.vars) l.olds (store_from (drop l.var-index l.vars) l.at l.sim.state.cells)
      ≡ l.initial.line.items ++ changes l.vars l.before (store_from l.vars l.address l.sim.state.cells);
  whole : length l.olds ≡ cell_count (drop l.var-index l.vars);
  stands : l.at + length l.olds ≡ l.address + length l.before;
  room : vec_capacity l.initial.line ≤ vec_capacity l.line;
}
