use Rattle.std.proofs.Common.{◌≡◌}
use Rattle.tree_laws.specs.Classes.{cell_bits}
use Rattle.respell.proofs.jobs.Speller.grow.Given as goal

abbrev pub invariant-loop : goal.invariant-loop
invariant-loop l = cell_bits l.rounds.table ≡ cell_bits l.fn.rounds.table
