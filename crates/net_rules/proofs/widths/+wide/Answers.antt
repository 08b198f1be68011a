use Rattle.std.proofs.Common.{arith, sym, ap}
use Rattle.std.proofs.lemmas.Grind.{common_steps}
use Rattle.net_model.specs.TextWidths.{wide}
use Rattle.net_rules.specs.Inner.Scopes.{model_of_scope}
use Rattle.net_rules.proofs.Rows.{case_seen, case_nodes, row_nodes}
use Rattle.net_rules.proofs.widths.+wide.Goals as goal

pub seen_rows-wide-requires : goal.seen_rows-wide-requires
seen_rows-wide-requires t c =
    let less = row_nodes _ _ c.row-item.result c.loop-row-test.true c.row-item.is in
    (omega arith, tt)

pub wide-seen_rows-seen-requires : goal.wide-seen_rows-seen-requires
wide-seen_rows-seen-requires t c =
    let whole = case_nodes _ _ _ _ _ c.in-Case.is c.deref-in-Case-2.ensures.value in
    (omega arith, tt)

pub wide-returns-in-Case : goal.wide-returns-in-Case
wide-returns-in-Case t c =
    let whole = case_seen c.args.e.now c.in-Case.sel c.in-Case.rows c.in-Case.rest c.deref-in-Case.result.now c.deref-in-Case-2.result.now c.in-Case.is c.deref-in-Case.ensures c.deref-in-Case-2.ensures.value in
    rw (c.seen_width.ensures, c.seen_rest.ensures, c.seen_rows-seen.ensures, c.wide-selector.ensures) (sym (ap (wide (model_of_scope c.args.place.now)) whole))

pub seen_rows-loop-row-preserved : goal.seen_rows-loop-row-preserved
seen_rows-loop-row-preserved t c = grind (arith, common_steps)

pub seen_rows-returns : goal.seen_rows-returns
seen_rows-returns t c = grind (arith, common_steps)
