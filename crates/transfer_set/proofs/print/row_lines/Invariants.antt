use Rattle.std.proofs.Common.{ℕ, List, ◌++◌, drop, All}
use Rattle.sym_expr.specs.declared.pool.Node.{Node}
use Rattle.transfer_set.specs.PatternsText.{AreLines}
use Rattle.transfer_set.specs.Rows.{row_patterns}
use Rattle.transfer_set.specs.Tables.{IsRow}
use Rattle.transfer_set.proofs.print.row_lines.Given as goal

-- what completes the lines so far completes the whole
abbrev pub invariant-loop-number : goal.invariant-loop-number
invariant-loop-number l =
    (pool : List Node) → All (IsRow l.checked.netlist l.book pool) l.rows
    → (more : List ℕ) → AreLines l.checked.netlist l.number (row_patterns pool (drop l.number l.rows)) more
    → AreLines l.checked.netlist 0 (row_patterns pool l.rows) (l.lines.items ++ more)
