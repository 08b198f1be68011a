use Rattle.std.proofs.Common.{◌≡◌}
use Rattle.tree_laws.specs.Classes.{cell_bits}
use Rattle.respell.proofs.seeds.shift_to.Given as goal

abbrev pub invariant-loop : goal.invariant-loop
invariant-loop l = cell_bits l.table ≡ cell_bits l.fn.table
