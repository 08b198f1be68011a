use Rattle.std.proofs.Common.{◌≡◌}
use Rattle.tree_laws.specs.Classes.{cell_bits}
use Rattle.law_rounds.proofs.rounds.Rounds.closed_places.Given as goal

abbrev pub invariant-loop-index : goal.invariant-loop-index
invariant-loop-index l = cell_bits l.self.table ≡ cell_bits l.fn.self.table
