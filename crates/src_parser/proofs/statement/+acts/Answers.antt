use Rattle.std.proofs.Common.{map, ◌≡◌, suc, ◌-◌, refl, sym, ap, ◌∙◌, arith}
use Rattle.std.proofs.lemmas.Result.{err_from_is_err_and}
use Rattle.grammar.specs.Reading.{head}
use Rattle.grammar.proofs.Steps.{return_reads, never_stops}
use Rattle.grammar.proofs.Passing.{fails_too, gives_too, reads_too, same_leads, there_return, there_bind, there_many, there_maybe, beyond_reads, beyond_fails, short_of, on, past, stuck, starts_inner, returned, returned_reads, maybe_none, maybe_reads, maybe_fails}
use Rattle.grammar.proofs.Repeats.{list_ends, list_fails, list_goes_on}
use Rattle.src_model.specs.Written.{model_of_stmt}
use Rattle.src_parser.specs.Inner.Steps.{others_of, may_follow, else_word, acts_word}
use Rattle.grammar.proofs.Tokens.{begun, ends, there_sign, there_number, there_behind, there_before, not_there}
use Rattle.grammar.proofs.Kept.{kept_reads, kept_fails, kept_gives}
use Rattle.src_parser.proofs.Statements.{block_leads, block_starts, there_block, acted, not_so, compound_leads, no_level, act_missed, act_ended, name_leads, while_reads, for_reads, if_kept}
use Rattle.src_parser.proofs.statement.+acts.Goals as goal

pub block-returns-in_err-rest : goal.block-returns-in_err-rest
block-returns-in_err-rest t c =
    let p = err_from_is_err_and c.from_residual.result c.from_residual.ensures.1 in
    let s : c.args.levels ≡ suc (c.args.levels - 1) = omega arith in
    rw (p.1, p.2) (fails_too (block_leads c.args.levels (c.args.levels - 1) s) (stuck (λ u. there_before there_many) c.in_err-rest.ensures))

pub block-returns-in_err-body : goal.block-returns-in_err-body
block-returns-in_err-body t c =
    let p = err_from_is_err_and c.from_residual-in_err-body.result c.from_residual-in_err-body.ensures.1 in
    let s : c.args.levels ≡ suc (c.args.levels - 1) = omega arith in
    rw (p.1, p.2) (fails_too (block_leads c.args.levels (c.args.levels - 1) s) (past c.in_ok-rest.ensures (short_of (ends acts_word (λ a. begun) refl) (λ a. there_bind there_sign (λ u. there_return)) c.in_err-body.ensures)))

pub block-returns : goal.block-returns
block-returns t c =
    let s : c.args.levels ≡ suc (c.args.levels - 1) = omega arith in
    let leads = block_leads c.args.levels (c.args.levels - 1) s in
    kept_gives (λ rest. (tt, rest.now)) (λ x. (map model_of_stmt x.0.items, x.1.now))
    (λ rest r. reads_too leads (on c.in_ok-rest.ensures (beyond_reads (ends acts_word (λ a. begun) refl) c.in_ok-body.ensures (on r return_reads))))
    (λ stop f. fails_too leads (past c.in_ok-rest.ensures (beyond_fails (ends acts_word (λ a. begun) refl) c.in_ok-body.ensures (stuck (λ u. there_return) f))))
    c.expect-2.result c.expect-2.ensures c.keeping.result c.keeping.ensures.read c.keeping.ensures.stopped

pub body-acts-init : goal.body-acts-init
body-acts-init t c = rw c.new-acts.ensures.items same_leads

pub body-returns-in_err-next : goal.body-returns-in_err-next
body-returns-in_err-next t c =
    let p = err_from_is_err_and c.from_residual.result c.from_residual.ensures.1 in
    rw (p.1, p.2) (let b = c.begins_act.ensures.0 c.acts-test.true in list_fails (acted c.args.levels) model_of_stmt c.acts.acts.items (λ vs. vs) c.acts.invariant (ap head b.parts) b.is c.in_err-next.ensures)

pub body-acts-preserved : goal.body-acts-preserved
body-acts-preserved t c = let b = c.begins_act.ensures.0 c.acts-test.true in rw c.in_ok-push.ensures.items (list_goes_on (acted c.args.levels) model_of_stmt c.acts.acts.items (λ vs. vs) c.acts.invariant (ap head b.parts) b.is c.in_ok-next.next c.in_ok-next.ensures)

pub body-returns : goal.body-returns
body-returns t c = list_ends (acted c.args.levels) model_of_stmt c.acts.acts.items (λ vs. vs) c.acts.invariant (not_so c.begins_act.ensures c.acts-test.false)

pub otherwise-returns-in_err-rest : goal.otherwise-returns-in_err-rest
otherwise-returns-in_err-rest t c =
    let p = err_from_is_err_and c.from_residual.result c.from_residual.ensures.1 in
    rw (p.1, p.2) (let b = c.begins_with.ensures.0 c.if-begins_with.true in maybe_fails b.parts (ap else_word b.is) (λ k st. never_stops k) (stuck (λ u. (there_block c.args.levels c.requires)) c.in_err-rest.ensures))

pub otherwise-returns-in_err-other : goal.otherwise-returns-in_err-other
otherwise-returns-in_err-other t c =
    let p = err_from_is_err_and c.from_residual-in_err-other.result c.from_residual-in_err-other.ensures.1 in
    rw (p.1, p.2) (let b = c.begins_with.ensures.0 c.if-begins_with.true in maybe_fails b.parts (ap else_word b.is) (λ k st. never_stops k) (past c.in_ok-rest.ensures c.in_err-other.ensures))

pub otherwise-returns-in_ok-other : goal.otherwise-returns-in_ok-other
otherwise-returns-in_ok-other t c = let b = c.begins_with.ensures.0 c.if-begins_with.true in maybe_reads b.parts (ap else_word b.is) (λ k st. never_stops k) (on c.in_ok-rest.ensures c.in_ok-other.ensures)

pub otherwise-returns-else-begins_with : goal.otherwise-returns-else-begins_with
otherwise-returns-else-begins_with t c = maybe_none begun (not_there c.begins_with.ensures c.if-begins_with.false)

pub choice-returns-in_err-test : goal.choice-returns-in_err-test
choice-returns-in_err-test t c =
    let p = err_from_is_err_and c.from_residual.result c.from_residual.ensures.1 in
    rw (p.1, p.2) (short_of (ends (may_follow 6) (λ a. starts_inner (block_starts c.args.levels)) refl) (λ t. there_bind (there_block c.args.levels c.requires) (λ b. there_bind there_maybe (λ o. there_return))) c.in_err-test.ensures)

pub choice-returns-in_err-test-2 : goal.choice-returns-in_err-test-2
choice-returns-in_err-test-2 t c =
    let p = err_from_is_err_and c.from_residual-in_err-test-2.result c.from_residual-in_err-test-2.ensures.1 in
    rw (p.1, p.2) (beyond_fails (ends (may_follow 6) (λ a. starts_inner (block_starts c.args.levels)) refl) c.in_ok-test.ensures (stuck (λ b. there_bind there_maybe (λ o. there_return)) (kept_fails (λ x. (map model_of_stmt x.0.items, x.1.now)) c.block.ensures c.in_err-test-2.ensures.stopped)))

pub choice-returns-in_err-test-3 : goal.choice-returns-in_err-test-3
choice-returns-in_err-test-3 t c =
    let p = err_from_is_err_and c.from_residual-in_err-test-3.result c.from_residual-in_err-test-3.ensures.1 in
    let yes = kept_reads (λ x. (map model_of_stmt x.0.items, x.1.now)) c.block.ensures c.in_ok-test-2.ensures.read.1 in
    let no = kept_fails (λ x. (others_of x.0, x.1.now)) c.otherwise.ensures c.in_err-test-3.ensures.stopped in
    rw (p.1, p.2) (beyond_fails (ends (may_follow 6) (λ a. starts_inner (block_starts c.args.levels)) refl) c.in_ok-test.ensures (past yes (fails_too returned no)))

pub choice-returns : goal.choice-returns
choice-returns t c =
    let yes = kept_reads (λ x. (map model_of_stmt x.0.items, x.1.now)) c.block.ensures c.in_ok-test-2.ensures.read.1 in
    let no = kept_reads (λ x. (others_of x.0, x.1.now)) c.otherwise.ensures c.in_ok-test-3.ensures.read.1 in
    if_kept c.in_ok-test-2.test c.in_ok-test-2.yes c.in_ok-test-3.no c.in_ok-test-3.ensures.read.0
    (rw c.in_ok-test-2.ensures.read.0 (beyond_reads (ends (may_follow 6) (λ a. starts_inner (block_starts c.args.levels)) refl) c.in_ok-test.ensures (on yes (returned_reads no))))

pub repetition-returns-in_err-test : goal.repetition-returns-in_err-test
repetition-returns-in_err-test t c =
    let p = err_from_is_err_and c.from_residual.result c.from_residual.ensures.1 in
    rw (p.1, p.2) (short_of (ends (may_follow 6) (λ a. starts_inner (block_starts c.args.levels)) refl) (λ t. there_bind (there_block c.args.levels c.requires) (λ b. there_return)) c.in_err-test.ensures)

pub repetition-returns-in_err-test-2 : goal.repetition-returns-in_err-test-2
repetition-returns-in_err-test-2 t c =
    let p = err_from_is_err_and c.from_residual-in_err-test-2.result c.from_residual-in_err-test-2.ensures.1 in
    rw (p.1, p.2) (beyond_fails (ends (may_follow 6) (λ a. starts_inner (block_starts c.args.levels)) refl) c.in_ok-test.ensures (stuck (λ b. there_return) (kept_fails (λ x. (map model_of_stmt x.0.items, x.1.now)) c.block.ensures c.in_err-test-2.ensures.stopped)))

pub repetition-returns : goal.repetition-returns
repetition-returns t c =
    let body = kept_reads (λ x. (map model_of_stmt x.0.items, x.1.now)) c.block.ensures c.in_ok-test-2.ensures.read.1 in
    rw c.in_ok-test-2.ensures.read.0 (while_reads c.in_ok-test.test c.in_ok-test-2.body (beyond_reads (ends (may_follow 6) (λ a. starts_inner (block_starts c.args.levels)) refl) c.in_ok-test.ensures (on body return_reads)))

pub counting-returns-in_err-counter : goal.counting-returns-in_err-counter
counting-returns-in_err-counter t c =
    let p = err_from_is_err_and c.from_residual.result c.from_residual.ensures.1 in
    rw (p.1, p.2) (stuck (λ n. there_bind (there_behind there_number) (λ a. there_bind (there_behind there_number) (λ z. there_bind (there_block c.args.levels c.requires) (λ b. there_return)))) c.in_err-counter.ensures)

pub counting-returns-in_err-from : goal.counting-returns-in_err-from
counting-returns-in_err-from t c =
    let p = err_from_is_err_and c.from_residual-in_err-from.result c.from_residual-in_err-from.ensures.1 in
    rw (p.1, p.2) (past c.in_ok-counter.ensures (stuck (λ a. there_bind (there_behind there_number) (λ z. there_bind (there_block c.args.levels c.requires) (λ b. there_return))) c.in_err-from.ensures))

pub counting-returns-in_err-to : goal.counting-returns-in_err-to
counting-returns-in_err-to t c =
    let p = err_from_is_err_and c.from_residual-in_err-to.result c.from_residual-in_err-to.ensures.1 in
    rw (p.1, p.2) (past c.in_ok-counter.ensures (past c.in_ok-from.ensures (stuck (λ z. there_bind (there_block c.args.levels c.requires) (λ b. there_return)) c.in_err-to.ensures)))

pub counting-returns-in_err-body : goal.counting-returns-in_err-body
counting-returns-in_err-body t c =
    let p = err_from_is_err_and c.from_residual-in_err-body.result c.from_residual-in_err-body.ensures.1 in
    rw (p.1, p.2) (past c.in_ok-counter.ensures (past c.in_ok-from.ensures (past c.in_ok-to.ensures (stuck (λ b. there_return) c.in_err-body.ensures))))

pub counting-returns : goal.counting-returns
counting-returns t c = for_reads c.in_ok-counter.counter.name c.in_ok-counter.counter.at c.in_ok-from.from c.in_ok-to.to c.in_ok-body.body (on c.in_ok-counter.ensures (on c.in_ok-from.ensures (on c.in_ok-to.ensures (on c.in_ok-body.ensures return_reads))))

pub act-returns-in_default : goal.act-returns-in_default
act-returns-in_default t c = act_ended c.args.levels c.in_default.ensures

pub act-returns-then-levels-eq0 : goal.act-returns-then-levels-eq0
act-returns-then-levels-eq0 t c = no_level c.args.levels c.if-levels-eq0.true c.in-Some.ensures (sym c.compound_of.ensures ∙ c.in-Some-compound_of.is)

pub act-returns-in-Some-compound_of : goal.act-returns-in-Some-compound_of
act-returns-in-Some-compound_of t c = gives_too (λ x. (model_of_stmt x.0, x.1.now)) (compound_leads c.args.levels c.in-Some.ensures (sym c.compound_of.ensures ∙ c.in-Some-compound_of.is)) c.composed.result c.composed.ensures

pub act-returns-in-Name : goal.act-returns-in-Name
act-returns-in-Name t c = gives_too (λ x. (model_of_stmt x.0, x.1.now)) (name_leads c.args.levels c.in-Some.ensures c.in-Name.is) c.assignment.result c.assignment.ensures

pub act-returns-in_default-word : goal.act-returns-in_default-word
act-returns-in_default-word t c = act_missed c.args.levels c.in-Some.ensures (sym c.compound_of.ensures ∙ c.in_default-compound_of.is) c.in_default-word.not-Name
