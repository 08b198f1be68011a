use Rattle.std.proofs.Common.{◌≡◌}
use Rattle.tree_laws.specs.Classes.{cell_bits}
use Rattle.respell.proofs.seeds.at_node.Given as goal

abbrev pub invariant-loop-widening : goal.invariant-loop-widening
invariant-loop-widening l = cell_bits l.table ≡ cell_bits l.fn.table
