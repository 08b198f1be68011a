-- How many nodes an expression has, by which the calls on its parts go down.
use Rattle.std.specs.Prelude.{ℕ, ◌+◌}
use Rattle.net_model.specs.Written.{NetExprModel, named, const, un, bin, cat, slice, zext, sext, read, case, CaseRowsModel, no_rows, row, CaseRestModel, no_rest, rest}

abbrev mutual
  pub nodes : NetExprModel → ℕ
  nodes (named name field bits) = 1
  nodes (const value width) = 1
  nodes (un op a) = nodes a + 1
  nodes (bin op a b) = nodes a + nodes b + 1
  nodes (cat a b) = nodes a + nodes b + 1
  nodes (slice a hi lo) = nodes a + 1
  nodes (zext a width) = nodes a + 1
  nodes (sext a width) = nodes a + 1
  nodes (read name a) = nodes a + 1
  nodes (case selector rows other) = nodes selector + nodes_rows rows + nodes_rest other + 2

  pub nodes_rows : CaseRowsModel → ℕ
  nodes_rows no_rows = 0
  nodes_rows (row numbers a rows) = nodes a + nodes_rows rows + 1

  pub nodes_rest : CaseRestModel → ℕ
  nodes_rest no_rest = 0
  nodes_rest (rest a) = nodes a + 1
