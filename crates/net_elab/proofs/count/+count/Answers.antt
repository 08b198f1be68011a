use Rattle.std.proofs.Common.{arith, ap}
use Rattle.std.proofs.lemmas.Grind.{common_steps}
use Rattle.net_model.specs.Written.{model_of_net_expr}
use Rattle.net_model.specs.Numbering.{count, count_rows}
use Rattle.net_model.specs.declared.units.NetExpr.{NetExpr}
use Rattle.net_elab.proofs.Rows.{case_nodes, case_count, same_nodes, same_count, rows_item, row_nodes}
use Rattle.net_elab.proofs.count.+count.Goals as goal

pub count_nets-count_rows-requires : goal.count_nets-count_rows-requires
count_nets-count_rows-requires t c =
    let whole = case_nodes _ _ _ _ c.in-Case.is in
    let all = case_count _ _ _ _ c.in-Case.is in
    let rows = same_nodes _ _ c.deref-in-Case.ensures.value in
    let nets = same_count _ _ c.deref-in-Case.ensures.value in
    (omega arith, omega arith)

pub count_nets-overflow_add-result : goal.count_nets-overflow_add-result
count_nets-overflow_add-result t c =
    let all = case_count _ _ _ _ c.in-Case.is in
    let nets = same_count _ _ c.deref-in-Case.ensures.value in
    let selector = ap (λ (e : NetExpr). count (model_of_net_expr e)) c.deref.ensures in
    omega arith

pub count_nets-overflow_add-result-in-Case : goal.count_nets-overflow_add-result-in-Case
count_nets-overflow_add-result-in-Case t c =
    let all = case_count _ _ _ _ c.in-Case.is in
    let nets = same_count _ _ c.deref-in-Case.ensures.value in
    let selector = ap (λ (e : NetExpr). count (model_of_net_expr e)) c.deref.ensures in
    omega arith

pub count_nets-overflow_add-result-in-Case-2 : goal.count_nets-overflow_add-result-in-Case-2
count_nets-overflow_add-result-in-Case-2 t c =
    let all = case_count _ _ _ _ c.in-Case.is in
    let nets = same_count _ _ c.deref-in-Case.ensures.value in
    let selector = ap (λ (e : NetExpr). count (model_of_net_expr e)) c.deref.ensures in
    omega arith

pub count_nets-returns-in-Case : goal.count_nets-returns-in-Case
count_nets-returns-in-Case t c =
    let all = case_count _ _ _ _ c.in-Case.is in
    let nets = same_count _ _ c.deref-in-Case.ensures.value in
    let selector = ap (λ (e : NetExpr). count (model_of_net_expr e)) c.deref.ensures in
    omega arith

pub count_rows-count_nets-total-requires : goal.count_rows-count_nets-total-requires
count_rows-count_nets-total-requires t c =
    let less = row_nodes _ _ c.row-item.result c.loop-row-test.true c.row-item.is in
    let split = ap count_rows (rows_item _ _ c.row-item.result c.loop-row-test.true c.row-item.is) in
    (omega arith, omega arith)

pub count_rows-overflow_add-total : goal.count_rows-overflow_add-total
count_rows-overflow_add-total t c = grind (arith, common_steps)

pub count_rows-loop-row-preserved : goal.count_rows-loop-row-preserved
count_rows-loop-row-preserved t c = grind (arith, common_steps)

pub count_rows-returns : goal.count_rows-returns
count_rows-returns t c = grind (arith, common_steps)
