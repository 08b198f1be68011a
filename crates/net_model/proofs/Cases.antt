-- What a case is seen as, by the list of its rows.
use Rattle.std.proofs.Common.{◌≡◌, ℕ, Option, Some, None, map, Box, refl, ap, ◌∙◌}
use Rattle.std.specs.declared.vec.Vec.{Vec}
use Rattle.std.specs.declared.alloc.Global.{Global}
use mathlib.Core.Former.{Count}
use Rattle.net_model.specs.declared.units.NetExpr.{NetExpr, Row_of-NetExpr-Case-1-2, end_of-NetExpr-Case-1-2, more_of-NetExpr-Case-1-2, Case, items-the_row-NetExpr-Case-1-2, items_hidden-the_row-NetExpr-Case-1-2-0}
use Rattle.net_model.specs.declared.units.NetExpr.TheBlock.{hidden-the_row-NetExpr-Case-1-2-0}
use Rattle.net_model.specs.Written.{case, row, model_of_net_expr, model_of_case_rows, model_of_case_row, case_rows_of, case_rest_of, other_of}

abbrev pub Row : Type 0
Row = Vec ℕ Global × NetExpr

rows_seen : (n : Count) (r : Row_of-NetExpr-Case-1-2 n) → model_of_case_rows r ≡ case_rows_of (map model_of_case_row (items-the_row-NetExpr-Case-1-2 n r))
rows_seen n end_of-NetExpr-Case-1-2 = refl
rows_seen n (more_of-NetExpr-Case-1-2 {n = m} numbers e others) = ap (λ rs. row numbers.items (model_of_net_expr e) rs) (rows_seen m others)

block_seen : (rows : Vec Row Global) → model_of_case_rows (hidden-the_row-NetExpr-Case-1-2-0 rows) ≡ case_rows_of (map model_of_case_row rows.items)
block_seen rows = rows_seen _ (hidden-the_row-NetExpr-Case-1-2-0 rows) ∙ ap (λ rs. case_rows_of (map model_of_case_row rs)) (items_hidden-the_row-NetExpr-Case-1-2-0 rows)

pub phrase_Case : (sel : Box NetExpr Global) (rows : Vec Row Global) (held : Option (Box NetExpr Global)) → model_of_net_expr (Case sel rows held) ≡ case (model_of_net_expr sel.value) (case_rows_of (map model_of_case_row rows.items)) (case_rest_of (other_of held))
phrase_Case sel rows None = ap (λ rs. case (model_of_net_expr sel.value) rs (case_rest_of None)) (block_seen rows)
phrase_Case sel rows (Some b) = ap (λ rs. case (model_of_net_expr sel.value) rs (case_rest_of (Some (model_of_net_expr b.value)))) (block_seen rows)
