use Rattle.std.proofs.Common.{arith}
use Rattle.std.proofs.lemmas.Grind.{common_steps}
use Rattle.net_rules.proofs.Rows.{case_seen, case_nodes, row_nodes}
use Rattle.net_rules.proofs.cases.+covers.Goals as goal

pub covers-covers_rows-requires : goal.covers-covers_rows-requires
covers-covers_rows-requires t c =
    let whole = case_nodes _ _ _ _ _ c.in-Case.is c.deref-in-Case.ensures.value in
    (omega arith, tt)

pub covers_rows-covers-requires : goal.covers_rows-covers-requires
covers_rows-covers-requires t c =
    let less = row_nodes _ _ c.row-item.result c.loop-row-test.true c.row-item.is in
    (omega arith, tt)

pub covers-returns-in-Case : goal.covers-returns-in-Case
covers-returns-in-Case t c =
    let whole = case_seen c.args.e.now c.in-Case.sel c.in-Case.rows c.in-Case.rest c.deref.result.now c.deref-in-Case.result.now c.in-Case.is c.deref.ensures c.deref-in-Case.ensures.value in
    let counted = rw (c.wide.ensures, c.deref-in-Case-2.ensures, ← c.deref.ensures, c.deref-in-Case-3.ensures.value, ← c.deref-in-Case.ensures.value) at c.is_covered.ensures in
    rw whole (c.both.ensures _ _ (c.both-parts.ensures _ _ (c.both-values.ensures _ _ c.covers.ensures c.covers_rows.ensures) c.covers_rest.ensures) counted)

pub covers_rows-returns : goal.covers_rows-returns
covers_rows-returns t c = grind (arith, common_steps)
