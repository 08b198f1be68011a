use Rattle.std.proofs.Common.{◌≡◌}
use Rattle.tree_laws.specs.Classes.{cell_bits}
use Rattle.respell.proofs.seeds.shift_fields.Given as goal

abbrev pub invariant-loop-field : goal.invariant-loop-field
invariant-loop-field l = cell_bits l.table ≡ cell_bits l.fn.table

abbrev pub invariant-loop-shift : goal.invariant-loop-shift
invariant-loop-shift l = cell_bits l.table ≡ cell_bits l.fn.table
