-- How many nodes and nets a case has, and the rows that are left at a row.
use Rattle.std.proofs.Common.{ℕ, ◌≡◌, ◌+◌, ◌<◌, zero, suc, length, get_or, drop, List, [], ◌∷◌, map, Option, Box, ap, ◌∙◌, arith}
use Rattle.std.specs.declared.vec.Vec.{Vec}
use Rattle.std.specs.declared.alloc.Global.{Global}
use Rattle.rec_bits.proofs.Faults.{drop_item}
use Rattle.net_model.specs.declared.units.NetExpr.{NetExpr, Case}
use Rattle.net_model.specs.Written.{row, model_of_net_expr, model_of_case_row, case_rows_of, case_rest_of, other_of}
use Rattle.net_model.specs.Numbering.{count, count_rows, count_rest}
use Rattle.net_model.proofs.Cases.{Row, phrase_Case}
use Rattle.net_model.specs.Inner.Nodes.{nodes, nodes_rows, nodes_rest}

-- how many nodes and nets a case has
pub case_nodes : (e : NetExpr) (sel : Box NetExpr Global) (rows : Vec Row Global) (other : Option (Box NetExpr Global)) → e ≡ Case sel rows other
    → nodes (model_of_net_expr e) ≡ nodes (model_of_net_expr sel.value) + nodes_rows (case_rows_of (map model_of_case_row rows.items)) + nodes_rest (case_rest_of (other_of other)) + 2
case_nodes e sel rows other is = ap (λ (x : NetExpr). nodes (model_of_net_expr x)) is ∙ ap nodes (phrase_Case sel rows other)

pub case_count : (e : NetExpr) (sel : Box NetExpr Global) (rows : Vec Row Global) (other : Option (Box NetExpr Global)) → e ≡ Case sel rows other
    → count (model_of_net_expr e) ≡ count (model_of_net_expr sel.value) + count_rows (case_rows_of (map model_of_case_row rows.items)) + count_rest (case_rest_of (other_of other)) + 1
case_count e sel rows other is = ap (λ (x : NetExpr). count (model_of_net_expr x)) is ∙ ap count (phrase_Case sel rows other)

pub same_nodes : (rows more : List Row) → rows ≡ more → nodes_rows (case_rows_of (map model_of_case_row rows)) ≡ nodes_rows (case_rows_of (map model_of_case_row more))
same_nodes rows more e = ap (λ (rs : List Row). nodes_rows (case_rows_of (map model_of_case_row rs))) e

pub same_count : (rows more : List Row) → rows ≡ more → count_rows (case_rows_of (map model_of_case_row rows)) ≡ count_rows (case_rows_of (map model_of_case_row more))
same_count rows more e = ap (λ (rs : List Row). count_rows (case_rows_of (map model_of_case_row rs))) e

-- the rest of a case's rows, at a row
pub rows_item : (rows : List Row) (i : ℕ) (x : Row) → i < length rows → x ≡ get_or rows i x
    → case_rows_of (map model_of_case_row (drop i rows)) ≡ row x.0.items (model_of_net_expr x.1) (case_rows_of (map model_of_case_row (drop (i + 1) rows)))
rows_item rows i x h e = ap (λ rs. case_rows_of (map model_of_case_row rs)) (drop_item rows i x h e)

-- a row has fewer nodes than all of them
pub row_nodes : (rows : List Row) (i : ℕ) (x : Row) → i < length rows → x ≡ get_or rows i x → nodes (model_of_net_expr x.1) < nodes_rows (case_rows_of (map model_of_case_row rows))
row_nodes [] i x h e = absurd (omega arith)
row_nodes (r ∷ rs) zero x h e = omega (arith, ap (λ (y : Row). nodes (model_of_net_expr y.1)) e)
row_nodes (r ∷ rs) (suc i) x h e = let k : nodes (model_of_net_expr x.1) < nodes_rows (case_rows_of (map model_of_case_row rs)) = row_nodes rs i x (omega arith) e in omega arith
