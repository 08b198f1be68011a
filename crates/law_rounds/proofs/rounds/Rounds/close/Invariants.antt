use Rattle.std.proofs.Common.{◌≡◌}
use Rattle.tree_laws.specs.Classes.{cell_bits}
use Rattle.law_rounds.proofs.rounds.Rounds.close.Given as goal

abbrev pub invariant-loop : goal.invariant-loop
invariant-loop l = cell_bits l.self.table ≡ cell_bits l.fn.self.table
