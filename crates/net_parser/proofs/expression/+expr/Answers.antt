use Rattle.std.proofs.Common.{◌≡◌, suc, ◌-◌, [], ◌∷◌, ◌++◌, map, refl, ap, ◌∙◌, arith}
use Rattle.std.proofs.lemmas.Result.{err_from_is_err_and}
use Rattle.grammar.specs.Reading.{head}
use Rattle.grammar.proofs.Steps.{return_reads, never_stops}
use Rattle.grammar.proofs.Passing.{fails_too, gives_too, there_return, there_bind, there_maybe, never_apart, beyond, beyond_reads, beyond_fails, short_of, on, past, stuck, starts_inner, maybe_none, maybe_reads, maybe_fails, returned, returned_reads, reads_too}
use Rattle.grammar.proofs.Repeats.{list_ends, list_fails, list_goes_on}
use Rattle.grammar.proofs.Tokens.{there_sign, there_number, there_behind, there_before, not_there, begun, ends, word_leads}
use Rattle.net_parser.specs.Inner.Steps.{comma_word, expr_word, arms_word}
use Rattle.net_parser.proofs.Expressions.{there_expr, operated_leads, leaf_leads, bare_leads, there_arm, there_rows, there_arms, rowed, rows_apart, else_leads, case_reads, rows_start, number_reads}
use Rattle.net_model.specs.Grammar.{IsExpr, ArmsBehind}
use Rattle.net_model.specs.Written.{model_of_net_expr, model_of_case_row, other_of}
use Rattle.grammar.proofs.Kept.{kept_gives}
use Rattle.net_parser.proofs.expression.+expr.Goals as goal

pub expr-returns-in_default : goal.expr-returns-in_default
expr-returns-in_default t c = gives_too (λ x. (model_of_net_expr x.0, x.1.now)) (leaf_leads c.args.depth c.in_default.ensures) c.leaf.result c.leaf.ensures

pub expr-returns-then-depth-eq0 : goal.expr-returns-then-depth-eq0
expr-returns-then-depth-eq0 t c = gives_too (λ x. (model_of_net_expr x.0, x.1.now)) (bare_leads c.args.depth c.if-depth-eq0.true) c.leaf-then-depth-eq0.result c.leaf-then-depth-eq0.ensures

pub expr-returns : goal.expr-returns
expr-returns t c = let s : c.args.depth ≡ suc (c.args.depth - 1) = omega arith in gives_too (λ x. (model_of_net_expr x.0, x.1.now)) (operated_leads c.args.depth (c.args.depth - 1) s c.in-Some.ensures.parts c.in-Some.ensures.is) c.operated.result c.operated.ensures

pub expr_behind-returns-in_err-rest : goal.expr_behind-returns-in_err-rest
expr_behind-returns-in_err-rest t c =
    let p = err_from_is_err_and c.from_residual.result c.from_residual.ensures.1 in
    rw (p.1, p.2) (stuck (λ u. (there_expr c.args.depth)) c.in_err-rest.ensures)

pub expr_behind-returns : goal.expr_behind-returns
expr_behind-returns t c = gives_too (λ x. (model_of_net_expr x.0, x.1.now)) (beyond never_apart c.in_ok-rest.ensures) c.expr.result c.expr.ensures

pub enclosed-returns-in_err-a : goal.enclosed-returns-in_err-a
enclosed-returns-in_err-a t c =
    let p = err_from_is_err_and c.from_residual.result c.from_residual.ensures.1 in
    rw (p.1, p.2) (short_of (ends expr_word (λ a. begun) c.requires) (λ a. there_bind there_sign (λ u. there_return)) c.in_err-a.ensures)

pub enclosed-returns : goal.enclosed-returns
enclosed-returns t c =
    kept_gives (λ rest. (tt, rest.now)) (λ x. (model_of_net_expr x.0, x.1.now))
    (λ rest r. beyond_reads (ends expr_word (λ a. begun) c.requires) c.in_ok-a.ensures (on r return_reads))
    (λ stop f. beyond_fails (ends expr_word (λ a. begun) c.requires) c.in_ok-a.ensures (stuck (λ u. there_return) f))
    c.expect.result c.expect.ensures c.keeping.result c.keeping.ensures.read c.keeping.ensures.stopped

pub operated-returns-in_err-a-in-Unary : goal.operated-returns-in_err-a-in-Unary
operated-returns-in_err-a-in-Unary t c =
    let p = err_from_is_err_and c.from_residual.result c.from_residual.ensures.1 in
    rw (p.1, p.2, c.in-Unary.is) (stuck (λ a. there_return) c.in_err-a-in-Unary.ensures)

pub operated-returns-in_ok-new-in-Unary : goal.operated-returns-in_ok-new-in-Unary
operated-returns-in_ok-new-in-Unary t c = rw (c.in-Unary.is, c.in_ok-new-in-Unary.ensures.ok) (on c.in_ok-a-in-Unary.ensures return_reads)

pub operated-returns-in_err-a-in-Binary : goal.operated-returns-in_err-a-in-Binary
operated-returns-in_err-a-in-Binary t c =
    let p = err_from_is_err_and c.from_residual-in_err-a-in-Binary.result c.from_residual-in_err-a-in-Binary.ensures.1 in
    rw (p.1, p.2, c.in-Binary.is) (stuck (λ a. there_return) c.in_err-a-in-Binary.ensures)

pub operated-returns-in_ok-a-in-Binary : goal.operated-returns-in_ok-a-in-Binary
operated-returns-in_ok-a-in-Binary t c = rw c.in-Binary.is (on c.in_ok-a-in-Binary.ensures return_reads)

pub operated-returns-in_err-a-in-Cat : goal.operated-returns-in_err-a-in-Cat
operated-returns-in_err-a-in-Cat t c =
    let p = err_from_is_err_and c.from_residual-in_err-a-in-Cat.result c.from_residual-in_err-a-in-Cat.ensures.1 in
    rw (p.1, p.2, c.in-Cat.is) (stuck (λ a. there_return) c.in_err-a-in-Cat.ensures)

pub operated-returns-in_ok-a-in-Cat : goal.operated-returns-in_ok-a-in-Cat
operated-returns-in_ok-a-in-Cat t c = rw c.in-Cat.is (on c.in_ok-a-in-Cat.ensures return_reads)

pub operated-returns-in_err-a-in-Zext : goal.operated-returns-in_err-a-in-Zext
operated-returns-in_err-a-in-Zext t c =
    let p = err_from_is_err_and c.from_residual-in_err-a-in-Zext.result c.from_residual-in_err-a-in-Zext.ensures.1 in
    rw (p.1, p.2, c.in-Zext.is) (stuck (λ a. there_return) c.in_err-a-in-Zext.ensures)

pub operated-returns-in_ok-a-in-Zext : goal.operated-returns-in_ok-a-in-Zext
operated-returns-in_ok-a-in-Zext t c = rw c.in-Zext.is (on c.in_ok-a-in-Zext.ensures return_reads)

pub operated-returns-in_err-a-in-Sext : goal.operated-returns-in_err-a-in-Sext
operated-returns-in_err-a-in-Sext t c =
    let p = err_from_is_err_and c.from_residual-in_err-a-in-Sext.result c.from_residual-in_err-a-in-Sext.ensures.1 in
    rw (p.1, p.2, c.in-Sext.is) (stuck (λ a. there_return) c.in_err-a-in-Sext.ensures)

pub operated-returns-in_ok-a-in-Sext : goal.operated-returns-in_ok-a-in-Sext
operated-returns-in_ok-a-in-Sext t c = rw c.in-Sext.is (on c.in_ok-a-in-Sext.ensures return_reads)

pub pair-returns-in_err-a : goal.pair-returns-in_err-a
pair-returns-in_err-a t c =
    let p = err_from_is_err_and c.from_residual.result c.from_residual.ensures.1 in
    rw (p.1, p.2) (short_of (ends expr_word (λ a. starts_inner (starts_inner begun)) refl) (λ a. there_bind (there_before (there_behind (there_expr c.args.depth))) (λ b. there_return)) c.in_err-a.ensures)

pub pair-returns-in_err-b : goal.pair-returns-in_err-b
pair-returns-in_err-b t c =
    let p = err_from_is_err_and c.from_residual-in_err-b.result c.from_residual-in_err-b.ensures.1 in
    rw (p.1, p.2) (beyond_fails (ends expr_word (λ a. starts_inner (starts_inner begun)) refl) c.in_ok-a.ensures (stuck (λ b. there_return) c.in_err-b.ensures))

pub pair-returns : goal.pair-returns
pair-returns t c = rw (c.in_ok-a-2.ensures.ok, c.in_ok-b-2.ensures.ok) (beyond_reads (ends expr_word (λ a. starts_inner (starts_inner begun)) refl) c.in_ok-a.ensures (on c.in_ok-b.ensures return_reads))

pub widened-returns-in_err-a : goal.widened-returns-in_err-a
widened-returns-in_err-a t c =
    let p = err_from_is_err_and c.from_residual.result c.from_residual.ensures.1 in
    rw (p.1, p.2) (short_of (ends expr_word (λ a. starts_inner (starts_inner begun)) refl) (λ a. there_bind (there_before (there_behind there_number)) (λ b. there_return)) c.in_err-a.ensures)

pub widened-returns-in_err-width : goal.widened-returns-in_err-width
widened-returns-in_err-width t c =
    let p = err_from_is_err_and c.from_residual-in_err-width.result c.from_residual-in_err-width.ensures.1 in
    rw (p.1, p.2) (beyond_fails (ends expr_word (λ a. starts_inner (starts_inner begun)) refl) c.in_ok-a.ensures (stuck (λ b. there_return) c.in_err-width.ensures))

pub widened-returns : goal.widened-returns
widened-returns t c = rw c.in_ok-a-2.ensures.ok (beyond_reads (ends expr_word (λ a. starts_inner (starts_inner begun)) refl) c.in_ok-a.ensures (on c.in_ok-width.ensures return_reads))

pub sliced-returns-in_err-a : goal.sliced-returns-in_err-a
sliced-returns-in_err-a t c =
    let p = err_from_is_err_and c.from_residual.result c.from_residual.ensures.1 in
    rw (p.1, p.2) (stuck (λ a. there_return) (short_of (ends expr_word (λ a. starts_inner begun) refl) (λ a. there_bind (there_behind there_number) (λ hi. there_bind (there_before (there_behind there_number)) (λ lo. there_return))) c.in_err-a.ensures))

pub sliced-returns-in_err-high : goal.sliced-returns-in_err-high
sliced-returns-in_err-high t c =
    let p = err_from_is_err_and c.from_residual-in_err-high.result c.from_residual-in_err-high.ensures.1 in
    rw (p.1, p.2) (stuck (λ a. there_return) (beyond_fails (ends expr_word (λ a. starts_inner begun) refl) c.in_ok-a.ensures (stuck (λ hi. there_bind (there_before (there_behind there_number)) (λ lo. there_return)) c.in_err-high.ensures)))

pub sliced-returns-in_err-low : goal.sliced-returns-in_err-low
sliced-returns-in_err-low t c =
    let p = err_from_is_err_and c.from_residual-in_err-low.result c.from_residual-in_err-low.ensures.1 in
    rw (p.1, p.2) (stuck (λ a. there_return) (beyond_fails (ends expr_word (λ a. starts_inner begun) refl) c.in_ok-a.ensures (past c.in_ok-high.ensures (stuck (λ lo. there_return) c.in_err-low.ensures))))

pub sliced-returns : goal.sliced-returns
sliced-returns t c = rw c.in_ok-a-2.ensures.ok (on (beyond_reads (ends expr_word (λ a. starts_inner begun) refl) c.in_ok-a.ensures (on c.in_ok-high.ensures (on c.in_ok-low.ensures return_reads))) return_reads)

pub reading-returns-in_err-memory : goal.reading-returns-in_err-memory
reading-returns-in_err-memory t c =
    let p = err_from_is_err_and c.from_residual.result c.from_residual.ensures.1 in
    rw (p.1, p.2) (stuck (λ a. there_return) (stuck (λ n. there_bind (there_before (there_behind (there_expr c.args.depth))) (λ a. there_return)) c.in_err-memory.ensures))

pub reading-returns-in_err-a : goal.reading-returns-in_err-a
reading-returns-in_err-a t c =
    let p = err_from_is_err_and c.from_residual-in_err-a.result c.from_residual-in_err-a.ensures.1 in
    rw (p.1, p.2) (stuck (λ a. there_return) (past c.in_ok-memory.ensures (stuck (λ a. there_return) c.in_err-a.ensures)))

pub reading-returns : goal.reading-returns
reading-returns t c = rw c.in_ok-a-2.ensures.ok (on (on c.in_ok-memory.ensures (on c.in_ok-a.ensures return_reads)) return_reads)

pub choice-returns-in_err-sel : goal.choice-returns-in_err-sel
choice-returns-in_err-sel t c =
    let p = err_from_is_err_and c.from_residual.result c.from_residual.ensures.1 in
    rw (p.1, p.2) (short_of (ends expr_word (λ a. starts_inner begun) refl) (λ sel. there_bind (there_behind (there_before (there_arms c.args.depth))) (λ a. there_return)) c.in_err-sel.ensures)

pub choice-returns-in_err-rows : goal.choice-returns-in_err-rows
choice-returns-in_err-rows t c =
    let p = err_from_is_err_and c.from_residual-in_err-rows.result c.from_residual-in_err-rows.ensures.1 in
    rw (p.1, p.2) (beyond_fails (ends expr_word (λ a. starts_inner begun) refl) c.in_ok-sel.ensures (stuck (λ a. there_return) c.in_err-rows.ensures))

pub choice-returns : goal.choice-returns
choice-returns t c = case_reads c.in_ok-sel-2.sel c.in_ok-rows.rows c.in_ok-rows.other (rw c.in_ok-sel-2.ensures.ok (beyond_reads (ends expr_word (λ a. starts_inner begun) refl) c.in_ok-sel.ensures (on c.in_ok-rows.ensures return_reads)))

pub braced-returns-in_err-rest : goal.braced-returns-in_err-rest
braced-returns-in_err-rest t c =
    let p = err_from_is_err_and c.from_residual.result c.from_residual.ensures.1 in
    rw (p.1, p.2) (stuck (λ u. there_before (there_arms c.args.depth)) c.in_err-rest.ensures)

pub braced-returns-in_err-arms : goal.braced-returns-in_err-arms
braced-returns-in_err-arms t c =
    let p = err_from_is_err_and c.from_residual-in_err-arms.result c.from_residual-in_err-arms.ensures.1 in
    rw (p.1, p.2) (past c.in_ok-rest.ensures (short_of (ends arms_word (λ a. begun) refl) (λ a. there_bind there_sign (λ u. there_return)) c.in_err-arms.ensures))

pub braced-returns : goal.braced-returns
braced-returns t c =
    kept_gives (λ rest. (tt, rest.now)) (λ x. ((map model_of_case_row x.0.0.items, other_of x.0.1), x.1.now))
    (λ rest r. on c.in_ok-rest.ensures (beyond_reads (ends arms_word (λ a. begun) refl) c.in_ok-arms.ensures (on r return_reads)))
    (λ stop f. past c.in_ok-rest.ensures (beyond_fails (ends arms_word (λ a. begun) refl) c.in_ok-arms.ensures (stuck (λ u. there_return) f)))
    c.expect-2.result c.expect-2.ensures c.keeping.result c.keeping.ensures.read c.keeping.ensures.stopped

pub arms-returns-in-Some : goal.arms-returns-in-Some
arms-returns-in-Some t c = gives_too (λ x. ((map model_of_case_row x.0.0.items, other_of x.0.1), x.1.now)) (word_leads (ArmsBehind (IsExpr c.args.depth)) c.in-Some.ensures.parts c.in-Some.ensures.is) c.rows_behind.result c.rows_behind.ensures

pub arms-returns-in_err-rest : goal.arms-returns-in_err-rest
arms-returns-in_err-rest t c =
    let p = err_from_is_err_and c.from_residual.result c.from_residual.ensures.1 in
    rw (p.1, p.2) (fails_too (else_leads (IsExpr c.args.depth) c.in_default.ensures) (stuck (λ u. there_bind (there_arm c.args.depth) (λ a. there_return)) c.in_err-rest.ensures))

pub arms-returns-in_err-a : goal.arms-returns-in_err-a
arms-returns-in_err-a t c =
    let p = err_from_is_err_and c.from_residual-in_err-a.result c.from_residual-in_err-a.ensures.1 in
    rw (p.1, p.2) (fails_too (else_leads (IsExpr c.args.depth) c.in_default.ensures) (past c.in_ok-rest.ensures (stuck (λ a. there_return) c.in_err-a.ensures)))

pub arms-returns : goal.arms-returns
arms-returns t c = rw (c.new-2.ensures.items, c.in_ok-a-2.ensures.ok) (reads_too (else_leads (IsExpr c.args.depth) c.in_default.ensures) (on c.in_ok-rest.ensures (on c.in_ok-a.ensures return_reads)))

pub rows_behind-returns-in_err-first : goal.rows_behind-returns-in_err-first
rows_behind-returns-in_err-first t c =
    let p = err_from_is_err_and c.from_residual.result c.from_residual.ensures.1 in
    rw (p.1, p.2) (stuck (λ r. there_bind there_rows (λ rs. there_bind there_maybe (λ o. there_return))) c.in_err-first.ensures)

pub rows_behind-returns-in_err-rows : goal.rows_behind-returns-in_err-rows
rows_behind-returns-in_err-rows t c =
    let p = err_from_is_err_and c.from_residual-in_err-rows.result c.from_residual-in_err-rows.ensures.1 in
    rw (p.1, p.2) (past c.in_ok-first.ensures (short_of rows_apart (λ rs. there_bind there_maybe (λ o. there_return)) c.in_err-rows.ensures))

pub rows_behind-returns-in_err-other : goal.rows_behind-returns-in_err-other
rows_behind-returns-in_err-other t c =
    let p = err_from_is_err_and c.from_residual-in_err-other.result c.from_residual-in_err-other.ensures.1 in
    rw (p.1, p.2) (past c.in_ok-first.ensures (beyond_fails rows_apart c.in_ok-rows.ensures (fails_too returned c.in_err-other.ensures)))

pub rows_behind-returns : goal.rows_behind-returns
rows_behind-returns t c = on c.in_ok-first.ensures (beyond_reads rows_apart c.in_ok-rows.ensures (returned_reads c.in_ok-other.ensures))

pub row-returns-in_err-numbers : goal.row-returns-in_err-numbers
row-returns-in_err-numbers t c =
    let p = err_from_is_err_and c.from_residual.result c.from_residual.ensures.1 in
    rw (p.1, p.2) (short_of (ends comma_word (λ a. starts_inner (starts_inner begun)) refl) (λ ns. there_bind (there_arm c.args.depth) (λ a. there_return)) c.in_err-numbers.ensures)

pub row-returns-in_err-a : goal.row-returns-in_err-a
row-returns-in_err-a t c =
    let p = err_from_is_err_and c.from_residual-in_err-a.result c.from_residual-in_err-a.ensures.1 in
    rw (p.1, p.2) (beyond_fails (ends comma_word (λ a. starts_inner (starts_inner begun)) refl) c.in_ok-numbers.ensures (stuck (λ a. there_return) c.in_err-a.ensures))

pub row-returns : goal.row-returns
row-returns t c = beyond_reads (ends comma_word (λ a. starts_inner (starts_inner begun)) refl) c.in_ok-numbers.ensures (on c.in_ok-a.ensures return_reads)

pub rows-others-init : goal.rows-others-init
rows-others-init t c = rows_start (c.in_ok-push.ensures.items ∙ ap (λ xs. xs ++ c.args.first ∷ []) c.new-rows.ensures.items)

pub rows-returns-in_err-other : goal.rows-returns-in_err-other
rows-returns-in_err-other t c =
    let p = err_from_is_err_and c.from_residual-in_err-other.result c.from_residual-in_err-other.ensures.1 in
    rw (p.1, p.2) (let o = c.in-Some.ensures in list_fails (rowed (IsExpr c.args.depth)) model_of_case_row c.others.rows.items (λ rs. rs) c.others.invariant (ap head o.parts) (c.in-Some.number, o.is) (past (number_reads o) c.in_err-other.ensures))

pub rows-others-preserved : goal.rows-others-preserved
rows-others-preserved t c = let o = c.in-Some.ensures in rw c.in_ok-push-2.ensures.items (list_goes_on (rowed (IsExpr c.args.depth)) model_of_case_row c.others.rows.items (λ rs. rs) c.others.invariant (ap head o.parts) (c.in-Some.number, o.is) c.in_ok-other.other (on (number_reads o) c.in_ok-other.ensures))

pub rows-returns : goal.rows-returns
rows-returns t c = list_ends (rowed (IsExpr c.args.depth)) model_of_case_row c.others.rows.items (λ rs. rs) c.others.invariant (λ t h b. c.in_default.ensures.never_so t h b.0 b.1)

pub otherwise-returns-in_err-rest : goal.otherwise-returns-in_err-rest
otherwise-returns-in_err-rest t c =
    let p = err_from_is_err_and c.from_residual.result c.from_residual.ensures.1 in
    rw (p.1, p.2) (let b = c.begins_with.ensures.0 c.if-begins_with.true in maybe_fails b.parts (ap arms_word b.is) (λ k st. never_stops k) (stuck (λ u. there_arm c.args.depth) c.in_err-rest.ensures))

pub otherwise-returns-in_err-a : goal.otherwise-returns-in_err-a
otherwise-returns-in_err-a t c =
    let p = err_from_is_err_and c.from_residual-in_err-a.result c.from_residual-in_err-a.ensures.1 in
    rw (p.1, p.2) (let b = c.begins_with.ensures.0 c.if-begins_with.true in maybe_fails b.parts (ap arms_word b.is) (λ k st. never_stops k) (past c.in_ok-rest.ensures c.in_err-a.ensures))

pub otherwise-returns-in_ok-a-2 : goal.otherwise-returns-in_ok-a-2
otherwise-returns-in_ok-a-2 t c = let b = c.begins_with.ensures.0 c.if-begins_with.true in rw c.in_ok-a-2.ensures.ok (maybe_reads b.parts (ap arms_word b.is) (λ k st. never_stops k) (on c.in_ok-rest.ensures c.in_ok-a.ensures))

pub otherwise-returns-else-begins_with : goal.otherwise-returns-else-begins_with
otherwise-returns-else-begins_with t c = maybe_none begun (not_there c.begins_with.ensures c.if-begins_with.false)
