use Rattle.std.proofs.Common.{◌≡◌, sym, ap, ◌∙◌, subst, arith, map, IsSome}
use Rattle.std.proofs.lemmas.Grind.{common_steps}
use Rattle.net_model.specs.declared.units.NetExpr.{NetExpr}
use Rattle.net_model.specs.Written.{NetExprModel, model_of_net_expr, model_of_case_row, case_rows_of, case_rest_of, other_of, read}
use Rattle.net_model.specs.TextWidths.{wide}
use Rattle.net_model.specs.Numbering.{count, count_rows, scope_at}
use Rattle.net_model.specs.Inner.Nodes.{nodes}
use Rattle.net_elab.specs.Inner.Emissions.{Emitted}
use Rattle.net_elab.specs.Inner.Sites.{model_of_site}
use Rattle.net_elab.proofs.Rows.{rows_item, row_nodes}
use Rattle.net_elab.proofs.Cases.{case_wide, row_wide}
use Rattle.net_elab.proofs.Emits.{if_ok_map, read_end, case_seen, case_none, case_some}
use Rattle.net_elab.proofs.expression.+emit.Goals as goal

pub emit-emit_case-requires : goal.emit-emit_case-requires
emit-emit_case-requires t c =
    let same = case_seen _ _ _ _ c.in-Case.is _ c.deref-in-Case.ensures _ c.deref-in-Case-2.ensures.value in
    let less = ap nodes same in
    let all = ap count same in
    (omega arith, (subst (λ (p : NetExprModel). IsSome (wide (scope_at (model_of_site c.args.site.now)) p)) same c.requires.widths, omega arith))

pub emit-returns-in_ok-a-in-Read : goal.emit-returns-in_ok-a-in-Read
emit-returns-in_ok-a-in-Read t c =
    let same : model_of_net_expr c.args.e.now ≡ read c.in-Read.name (model_of_net_expr c.deref-in-Read.result.now) =
    ap model_of_net_expr c.in-Read.is ∙ ap (λ (x : NetExpr). read c.in-Read.name (model_of_net_expr x)) (sym c.deref-in-Read.ensures) in
    let is_wide = subst (λ (p : NetExprModel). IsSome (wide (scope_at (model_of_site c.args.site.now)) p)) same c.requires.widths in
    if_ok_map
    (λ made q. subst (λ (p : NetExprModel). Emitted (model_of_site c.args.site.now) c.args.at p c.args.nets.now c.push_net-in-Read.new.nets made) (sym same)
    (read_end _ _ _ _ _ _ _ _ _ made c.in-Some.ensures is_wide c.in_ok-a-in-Read.ensures q))
    _ c.push_net-in-Read.ensures

pub emit-returns-in-Case : goal.emit-returns-in-Case
emit-returns-in-Case t c =
    let same = case_seen _ _ _ _ c.in-Case.is _ c.deref-in-Case.ensures _ c.deref-in-Case-2.ensures.value in
    if_ok_map
    (λ made q. subst (λ (p : NetExprModel). Emitted (model_of_site c.args.site.now) c.args.at p c.args.nets.now c.emit_case.new.nets made) (sym same) q)
    _ c.emit_case.ensures

pub emit_case-emit-requires : goal.emit_case-emit-requires
emit_case-emit-requires t c = (omega arith, ((case_wide (scope_at (model_of_site c.args.site.now)) (model_of_net_expr c.args.written.now.sel.now) (case_rows_of (map model_of_case_row c.args.written.now.rows.now)) (case_rest_of (other_of c.args.written.now.rest.now)) c.requires.widths).selector_wide, omega arith))

pub emit_case-emit_rows-requires : goal.emit_case-emit_rows-requires
emit_case-emit_rows-requires t c =
    let k = c.in_ok-selector.ensures in
    (omega arith, ((case_wide (scope_at (model_of_site c.args.site.now)) (model_of_net_expr c.args.written.now.sel.now) (case_rows_of (map model_of_case_row c.args.written.now.rows.now)) (case_rest_of (other_of c.args.written.now.rest.now)) c.requires.widths).rows_are_wide, omega (arith, k.long)))

pub emit_case-returns-in-None : goal.emit_case-returns-in-None
emit_case-returns-in-None t c =
    if_ok_map
    (λ made q. case_none _ _ _ _ _ _ _ _ _ c.in_ok-selector.ensures c.in_ok-pairs.ensures _ _ _ _ made c.in_ok-other.ensures c.in-None.is c.requires.widths q)
    _ c.push_net.ensures

pub emit_case-returns-in-Some : goal.emit_case-returns-in-Some
emit_case-returns-in-Some t c =
    if_ok_map
    (λ made q. case_some _ _ _ _ _ _ _ _ _ c.in_ok-selector.ensures c.in_ok-pairs.ensures _ _ _ _ _ made c.in_ok-other.ensures c.in-Some.is c.requires.widths q)
    _ c.push_net-in-Some.ensures

pub emit_rows-emit-requires : goal.emit_rows-emit-requires
emit_rows-emit-requires t c =
    let less = row_nodes _ _ c.row-item.result c.loop-row-test.true c.row-item.is in
    let split = rows_item _ _ c.row-item.result c.loop-row-test.true c.row-item.is in
    let nets = ap count_rows split in
    let w = c.loop-row.invariant in
    (omega arith, (row_wide _ _ _ _ _ split w.wide_so, omega (arith, w.long_so)))

pub emit-returns-in_ok-a-in-Un : goal.emit-returns-in_ok-a-in-Un
emit-returns-in_ok-a-in-Un t c = grind (arith, common_steps)

pub emit-returns-in_ok-b-in-Bin : goal.emit-returns-in_ok-b-in-Bin
emit-returns-in_ok-b-in-Bin t c = grind (arith, common_steps)

pub emit-returns-in_ok-b-in-Cat : goal.emit-returns-in_ok-b-in-Cat
emit-returns-in_ok-b-in-Cat t c = grind (arith, common_steps)

pub emit-returns-in_ok-a-in-Slice : goal.emit-returns-in_ok-a-in-Slice
emit-returns-in_ok-a-in-Slice t c = grind (arith, common_steps)

pub emit-returns-in_ok-a-in-Zext : goal.emit-returns-in_ok-a-in-Zext
emit-returns-in_ok-a-in-Zext t c = grind (arith, common_steps)

pub emit-returns-in_ok-a-in-Sext : goal.emit-returns-in_ok-a-in-Sext
emit-returns-in_ok-a-in-Sext t c = grind (arith, common_steps)

pub emit_rows-loop-row-preserved : goal.emit_rows-loop-row-preserved
emit_rows-loop-row-preserved t c = grind (arith, common_steps)

pub emit_rows-returns : goal.emit_rows-returns
emit_rows-returns t c = grind (arith, common_steps)
