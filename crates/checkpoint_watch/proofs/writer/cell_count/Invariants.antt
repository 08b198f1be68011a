use Rattle.std.proofs.Common.{◌≡◌, ◌+◌, drop}
use Rattle.src_model.specs.Meaning.{cell_count}
use Rattle.checkpoint_watch.proofs.writer.cell_count.Given as goal

abbrev pub invariant-loop-var : goal.invariant-loop-var
invariant-loop-var l = l.count + cell_count (drop l.var-index l.vars) ≡ cell_count l.vars
