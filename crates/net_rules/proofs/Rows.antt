-- What a case is seen as, and how many nodes its parts have.
use Rattle.std.proofs.Common.{ℕ, ◌≡◌, ◌+◌, ◌<◌, zero, suc, length, get_or, drop, List, [], ◌∷◌, map, Option, Box, refl, sym, ap, ◌∙◌, arith}
use Rattle.std.specs.declared.vec.Vec.{Vec}
use Rattle.std.specs.declared.alloc.Global.{Global}
use Rattle.rec_bits.proofs.Faults.{drop_item}
use Rattle.net_model.specs.declared.units.NetExpr.{NetExpr, Case}
use Rattle.net_model.specs.Written.{case, row, CaseRowsModel, model_of_net_expr, model_of_case_row, case_rows_of, case_rest_of, other_of}
use Rattle.net_model.proofs.Cases.{Row, phrase_Case}
use Rattle.net_model.specs.Inner.Nodes.{nodes, nodes_rows, nodes_rest}

abbrev pub seen_rows : List Row → CaseRowsModel
seen_rows rows = case_rows_of (map model_of_case_row rows)

-- what a case is seen as, where its parts were read
pub case_seen : (e : NetExpr) (sel : Box NetExpr Global) (rows : Vec Row Global) (other : Option (Box NetExpr Global)) (a : NetExpr) (seen : List Row)
    → e ≡ Case sel rows other → a ≡ sel.value → seen ≡ rows.items → model_of_net_expr e ≡ case (model_of_net_expr a) (seen_rows seen) (case_rest_of (other_of other))
case_seen e sel rows other a seen is selector read =
    ap model_of_net_expr is ∙ phrase_Case sel rows other
    ∙ (λ j. case (model_of_net_expr (sym selector j)) (seen_rows (sym read j)) (case_rest_of (other_of other)))

-- how many nodes a case has
pub case_nodes : (e : NetExpr) (sel : Box NetExpr Global) (rows : Vec Row Global) (other : Option (Box NetExpr Global)) (seen : List Row) → e ≡ Case sel rows other → seen ≡ rows.items
    → nodes (model_of_net_expr e) ≡ nodes (model_of_net_expr sel.value) + nodes_rows (seen_rows seen) + nodes_rest (case_rest_of (other_of other)) + 2
case_nodes e sel rows other seen is read = ap nodes (case_seen e sel rows other sel.value seen is refl read)

-- the rest of a case's rows, at a row
pub rows_item : (rows : List Row) (i : ℕ) (x : Row) → i < length rows → x ≡ get_or rows i x
    → seen_rows (drop i rows) ≡ row x.0.items (model_of_net_expr x.1) (seen_rows (drop (i + 1) rows))
rows_item rows i x h e = ap seen_rows (drop_item rows i x h e)

-- a row has fewer nodes than all of them
pub row_nodes : (rows : List Row) (i : ℕ) (x : Row) → i < length rows → x ≡ get_or rows i x → nodes (model_of_net_expr x.1) < nodes_rows (seen_rows rows)
row_nodes [] i x h e = absurd (omega arith)
row_nodes (r ∷ rs) zero x h e = omega (arith, ap (λ (y : Row). nodes (model_of_net_expr y.1)) e)
row_nodes (r ∷ rs) (suc i) x h e = let k : nodes (model_of_net_expr x.1) < nodes_rows (seen_rows rs) = row_nodes rs i x (omega arith) e in omega arith
