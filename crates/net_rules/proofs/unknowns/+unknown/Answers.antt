use Rattle.std.proofs.Common.{arith, drop, ◌+◌, ap, sym, ◌∙◌}
use Rattle.std.proofs.lemmas.Grind.{common_steps}
use Rattle.rec_bits.specs.Faults.{least}
use Rattle.net_model.specs.Written.{NetExprModel, model_of_net_expr, case_rest_of, other_of}
use Rattle.net_model.specs.NameRules.{unknown_in, unknown_rows, unknown_rest}
use Rattle.net_rules.specs.Inner.Scopes.{model_of_scope}
use Rattle.net_rules.proofs.Rows.{seen_rows, case_seen, case_nodes, rows_item, row_nodes}
use Rattle.net_rules.proofs.Scans.{least_three, scanned_next}
use Rattle.net_rules.proofs.unknowns.+unknown.Goals as goal

pub unknown_in-unknown_rows-requires : goal.unknown_in-unknown_rows-requires
unknown_in-unknown_rows-requires t c =
    let whole = case_nodes _ _ _ _ _ c.in-Case.is c.deref-in-Case-2.ensures.value in
    (omega arith, tt)

pub unknown_in-returns-in-Case : goal.unknown_in-returns-in-Case
unknown_in-returns-in-Case t c =
    let s = model_of_scope c.args.place.now in
    let whole = case_seen c.args.e.now c.in-Case.sel c.in-Case.rows c.in-Case.rest c.deref-in-Case.result.now c.deref-in-Case-2.result.now c.in-Case.is c.deref-in-Case.ensures c.deref-in-Case-2.ensures.value in
    rw (c.lesser_offset-in-Case.ensures, c.lesser_offset-found.ensures, c.unknown_in-in-Case.ensures, c.unknown_rows.ensures, c.unknown_other.ensures)
    (sym (ap (λ (a : NetExprModel). least (unknown_in s a)) whole
    ∙ least_three (unknown_in s (model_of_net_expr c.deref-in-Case.result.now)) (unknown_rows s (seen_rows c.deref-in-Case-2.result.now)) (unknown_rest s (case_rest_of (other_of c.in-Case.rest)))))

pub unknown_rows-unknown_in-requires : goal.unknown_rows-unknown_in-requires
unknown_rows-unknown_in-requires t c =
    let less = row_nodes _ _ c.row-item.result c.loop-row-test.true c.row-item.is in
    (omega arith, tt)

pub unknown_rows-loop-row-preserved : goal.unknown_rows-loop-row-preserved
unknown_rows-loop-row-preserved t c =
    let s = model_of_scope c.args.place.now in
    rw (c.lesser_offset-found.ensures, c.unknown_in.ensures)
    (scanned_next c.loop-row.found _ (unknown_in s (model_of_net_expr c.row-item.result.1)) (unknown_rows s (seen_rows (drop (c.loop-row.row-index + 1) c.args.rows.now))) _
    (ap (unknown_rows s) (rows_item c.args.rows.now c.loop-row.row-index c.row-item.result c.loop-row-test.true c.row-item.is)) c.loop-row.invariant)

pub unknown_rows-returns : goal.unknown_rows-returns
unknown_rows-returns t c = grind (arith, common_steps)
