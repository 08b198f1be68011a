use Rattle.std.proofs.Common.{◌≡◌, ◌+◌, List, refl, arith, ap}
use Rattle.std.proofs.lemmas.Grind.{common_steps}
use Rattle.net_model.specs.Numbering.{count, count_rows, count_rest}
use Rattle.net_model.specs.Written.{model_of_net_expr, case_rest_of, other_of}
use Rattle.net_rules.proofs.Rows.{seen_rows, case_seen, case_nodes, row_nodes}
use Rattle.net_rules.proofs.Counts.{counted_last}
use Rattle.net_rules.proofs.count.+count.Goals as goal

pub count-count_rows-requires : goal.count-count_rows-requires
count-count_rows-requires t c =
    let whole = case_nodes _ _ _ _ _ c.in-Case.is c.deref-in-Case.ensures.value in
    (omega arith, tt)

pub count-returns-in-Case : goal.count-returns-in-Case
count-returns-in-Case t c =
    let whole = case_seen c.args.e.now c.in-Case.sel c.in-Case.rows c.in-Case.rest c.deref.result.now c.deref-in-Case.result.now c.in-Case.is c.deref.ensures c.deref-in-Case.ensures.value in
    let counted : count (model_of_net_expr c.args.e.now) ≡ count (model_of_net_expr c.deref.result.now) + count_rows (seen_rows c.deref-in-Case.result.now) + count_rest (case_rest_of (other_of c.in-Case.rest)) + 1 = ap count whole in
    omega (arith, counted, c.saturating_add-in-Case.ensures, c.saturating_add.ensures, c.count_rest.ensures, c.saturating_add-values.ensures, c.count.ensures, c.count_rows.ensures)

pub count_rows-count-requires : goal.count_rows-count-requires
count_rows-count-requires t c =
    let less = row_nodes _ _ c.row-item.result c.loop-row-test.true c.row-item.is in
    (omega arith, tt)

pub count_rows-returns : goal.count_rows-returns
count_rows-returns t c = counted_last (λ (rows : List _). count_rows (seen_rows rows)) c.args.rows.now _ _ _ refl c.loop-row-test.false c.loop-row.invariant

pub count_rows-loop-row-preserved : goal.count_rows-loop-row-preserved
count_rows-loop-row-preserved t c = grind (arith, common_steps)
