use Rattle.std.proofs.Common.{◌≡◌}
use Rattle.tree_laws.specs.Classes.{cell_bits}
use Rattle.tree_laws.proofs.classes.Classes.add_parts.Given as goal

abbrev pub invariant-loop-part : goal.invariant-loop-part
invariant-loop-part l = cell_bits l.self ≡ cell_bits l.fn.self
