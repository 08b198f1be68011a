use Rattle.std.proofs.Common.{◌≡◌}
use Rattle.tree_laws.specs.Classes.{cell_bits}
use Rattle.respell.proofs.search.seed_each.Given as goal

abbrev pub invariant-loop-class : goal.invariant-loop-class
invariant-loop-class l = cell_bits l.rounds.table ≡ cell_bits l.fn.rounds.table

abbrev pub invariant-loop-node : goal.invariant-loop-node
invariant-loop-node l = cell_bits l.rounds.table ≡ cell_bits l.fn.rounds.table
