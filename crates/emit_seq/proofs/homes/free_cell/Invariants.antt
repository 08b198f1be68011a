use Rattle.std.proofs.Common.{◌≡◌}
use Rattle.form_model.specs.Steps.{free_cell}
use Rattle.emit_seq.proofs.homes.free_cell.Given as goal

abbrev pub invariant-loop-k : goal.invariant-loop-k
invariant-loop-k l = l.cell ≡ free_cell l.held l.k
