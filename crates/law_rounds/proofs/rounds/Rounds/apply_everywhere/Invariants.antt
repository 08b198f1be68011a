use Rattle.std.proofs.Common.{◌≡◌}
use Rattle.tree_laws.specs.Classes.{cell_bits}
use Rattle.law_rounds.proofs.rounds.Rounds.apply_everywhere.Given as goal

abbrev pub invariant-loop-member : goal.invariant-loop-member
invariant-loop-member l = cell_bits l.self.table ≡ cell_bits l.fn.self.table

abbrev pub invariant-loop-choice : goal.invariant-loop-choice
invariant-loop-choice l = cell_bits l.self.table ≡ cell_bits l.fn.self.table
