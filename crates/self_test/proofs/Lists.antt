-- The values of patterns, one after the other.
use Rattle.std.proofs.Common.{◌≡◌, ℕ, zero, suc, ◌+◌, ◌<◌, add-one, List, [], ◌∷◌, ◌++◌, drop, length, refl, ap, sym, arith, ◌∙◌, slice_get}
use Rattle.net_model.specs.declared.hardware.Netlist.{Netlist}
use Rattle.form_model.specs.Forms.{FormModel}
use Rattle.sym_expr.specs.declared.pool.Node.{Node}
use Rattle.transfer_set.specs.declared.row.Row.{Row}
use Rattle.transfer_set.specs.Rows.{row_patterns}
use Rattle.self_test.specs.Candidates.{value_at, values_from}

-- one pattern's value, and those of the patterns behind it
pub rows_step : (netlist : Netlist) (forms : List FormModel) (pool : List Node) (rows : List Row) (i number : ℕ) → i < length rows → values_from netlist forms number (drop i (row_patterns pool rows)) ≡ value_at netlist forms number (slice_get (row_patterns pool rows) i) ++ values_from netlist forms (number + 1) (drop (i + 1) (row_patterns pool rows))
rows_step netlist forms pool rows i number h =
    by rows i h
    ∙ ap (λ k. value_at netlist forms number (slice_get (row_patterns pool rows) i) ++ values_from netlist forms (number + 1) (drop k (row_patterns pool rows))) (sym (add-one i))
  where
    by : (rows : List Row) (i : ℕ) → i < length rows → values_from netlist forms number (drop i (row_patterns pool rows)) ≡ value_at netlist forms number (slice_get (row_patterns pool rows) i) ++ values_from netlist forms (number + 1) (drop (suc i) (row_patterns pool rows))
    by [] i h = absurd (omega arith)
    by (row ∷ rows) zero h = refl
    by (row ∷ rows) (suc i) h = by rows i (omega arith)
