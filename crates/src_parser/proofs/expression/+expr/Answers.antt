use Rattle.std.proofs.Common.{◌≡◌, suc, ◌-◌, ◌≤◌, Some, None, refl, sym, ap, ◌∙◌, arith}
use Rattle.std.proofs.lemmas.Result.{err_from_is_err_and}
use Rattle.grammar.specs.Reading.{head}
use Rattle.grammar.proofs.Steps.{return_reads}
use Rattle.grammar.proofs.Passing.{fails_too, gives_too, reads_too, then_leads, there_return, never_apart, on, stuck, starts_inner}
use Rattle.src_model.specs.Grammar.{op_at}
use Rattle.src_model.specs.Written.{model_of_src_expr}
use Rattle.src_parser.specs.Inner.Steps.{may_follow}
use Rattle.grammar.proofs.Tokens.{begun, ends}
use Rattle.grammar.proofs.Kept.{kept_reads, kept_fails, kept_gives}
use Rattle.src_parser.proofs.Rooms.{within_all, within_returned, within_closed, fixed_leads, token_length, token_least, token_most, any_least, bind_least, bind_most, return_most, short_return, short_bind, first_fails, second_leads}
use Rattle.src_parser.proofs.Expressions.{chain_some, short_chain, chain_stuck, chain_on, tail_stop, tail_stuck, tail_on, open_within, not_opened, unary_missed, unary_ended, named_within, number_within, no_index, index_within, width_behind, width_most, short_sign, short_width, shape_Var}
use Rattle.src_parser.proofs.expression.+expr.Goals as goal
use Rattle.src_parser.proofs.expression.+expr.Goals.{tail-in-Some+in_default-op_of, tail-in-Some+in-Some-op_of+then-spare-lt2, tail-in_default}

pub argument-returns-in_err-rest : goal.argument-returns-in_err-rest
argument-returns-in_err-rest t c =
    let p = err_from_is_err_and c.from_residual.result c.from_residual.ensures.1 in
    rw (p.1, p.2) (first_fails never_apart c.args.room 1 (omega arith) (λ u. chain_some 6 c.args.levels) (λ u. short_chain 6 c.args.levels) (fails_too (within_all (token_most (omega arith))) c.in_err-rest.ensures))

pub argument-returns : goal.argument-returns
argument-returns t c = gives_too (λ x. (model_of_src_expr x.0, x.1.now)) (fixed_leads 1 c.in_ok-rest.ensures (token_length c.in_ok-rest.ensures) (omega arith)) c.chain.result c.chain.ensures

pub bracket-returns-in_err-rest : goal.bracket-returns-in_err-rest
bracket-returns-in_err-rest t c =
    let p = err_from_is_err_and c.from_residual.result c.from_residual.ensures.1 in
    rw (p.1, p.2) (first_fails never_apart c.args.room 2 (omega arith) (λ u. bind_least 1 1 (chain_some 6 c.args.levels) (λ a. bind_least 1 0 token_least (λ u. any_least))) (λ u. short_bind 1 1 (short_chain 6 c.args.levels) (λ a. short_bind 1 0 short_sign (λ u. short_return))) (fails_too (within_all (token_most (omega arith))) c.in_err-rest.ensures))

pub bracket-returns : goal.bracket-returns
bracket-returns t c = gives_too (λ x. (model_of_src_expr x.0, x.1.now)) (fixed_leads 1 c.in_ok-rest.ensures (token_length c.in_ok-rest.ensures) (omega arith)) c.closed.result c.closed.ensures

pub call-returns-in_err-a : goal.call-returns-in_err-a
call-returns-in_err-a t c =
    let p = err_from_is_err_and c.from_residual.result c.from_residual.ensures.1 in
    rw (p.1, p.2) (first_fails (ends (may_follow 6) (λ a. starts_inner (starts_inner begun)) refl) c.args.room 3 (omega arith) (λ a. width_behind) (λ a. short_width) c.in_err-a.ensures)

pub call-returns-in_err-a-2 : goal.call-returns-in_err-a-2
call-returns-in_err-a-2 t c =
    let p = err_from_is_err_and c.from_residual-in_err-a-2.result c.from_residual-in_err-a-2.ensures.1 in
    rw (p.1, p.2) (fails_too (second_leads (ends (may_follow 6) (λ a. starts_inner (starts_inner begun)) refl) c.args.room 3 (omega arith) (λ a. width_behind) width_most c.in_ok-a.ensures) (stuck (λ b. there_return) (kept_fails (λ x. (x.0, x.1.now)) c.number_between.ensures c.in_err-a-2.ensures.stopped)))

pub call-returns : goal.call-returns
call-returns t c =
    let width = kept_reads (λ x. (x.0, x.1.now)) c.number_between.ensures c.in_ok-a-2.ensures.read.1 in
    rw (c.in_ok-e.ensures.made, c.in_ok-a-2.ensures.read.0) (reads_too (second_leads (ends (may_follow 6) (λ a. starts_inner (starts_inner begun)) refl) c.args.room 3 (omega arith) (λ a. width_behind) width_most c.in_ok-a.ensures) (on width return_reads))

pub chain-returns-in_err-first : goal.chain-returns-in_err-first
chain-returns-in_err-first t c =
    let p = err_from_is_err_and c.from_residual.result c.from_residual.ensures.1 in
    let s : suc (c.args.k - 1) ≡ c.args.k = omega arith in
    rw (p.1, p.2) (chain_stuck (c.args.k - 1) c.args.k c.args.levels s c.in_err-first.ensures)

pub chain-returns : goal.chain-returns
chain-returns t c =
    let s : suc (c.args.k - 1) ≡ c.args.k = omega arith in
    gives_too (λ x. (model_of_src_expr x.0, x.1.now)) (chain_on (c.args.k - 1) c.args.k c.args.levels s c.in_ok-first.ensures) c.tail.result c.tail.ensures

pub closed-returns-in_err-a : goal.closed-returns-in_err-a
closed-returns-in_err-a t c =
    let p = err_from_is_err_and c.from_residual.result c.from_residual.ensures.1 in
    rw (p.1, p.2) (first_fails (ends (may_follow 6) (λ a. begun) c.requires.ends) c.args.room 1 (omega arith) (λ a. bind_least 1 0 token_least (λ u. any_least)) (λ a. short_bind 1 0 short_sign (λ u. short_return)) c.in_err-a.ensures)

pub closed-returns : goal.closed-returns
closed-returns t c =
    let leads = second_leads (ends (may_follow 6) (λ a. begun) c.requires.ends) c.args.room 1 (omega arith) (λ a. bind_least 1 0 token_least (λ u. any_least)) (bind_most 1 0 (token_most (omega arith)) (λ u. return_most)) c.in_ok-a.ensures in
    kept_gives (λ rest. (tt, rest.now)) (λ x. (model_of_src_expr x.0, x.1.now)) (λ rest r. reads_too leads (on r return_reads)) (λ stop f. fails_too leads (stuck (λ u. there_return) f)) c.expect.result c.expect.ensures c.keeping.result c.keeping.ensures.read c.keeping.ensures.stopped

pub enclosed-returns-in_err-a : goal.enclosed-returns-in_err-a
enclosed-returns-in_err-a t c =
    let p = err_from_is_err_and c.from_residual.result c.from_residual.ensures.1 in
    rw (p.1, p.2) (fails_too within_closed c.in_err-a.ensures)

pub enclosed-returns : goal.enclosed-returns
enclosed-returns t c = reads_too within_closed c.in_ok-a.ensures

pub index-returns-in_err-a : goal.index-returns-in_err-a
index-returns-in_err-a t c =
    let p = err_from_is_err_and c.from_residual.result c.from_residual.ensures.1 in
    let o = c.opens_index.ensures.0 c.if-opens_index.true in
    let s : c.args.levels ≡ suc (c.args.levels - 1) = omega arith in
    rw (p.1, p.2) (fails_too (index_within c.args.levels (c.args.levels - 1) s o.begins) c.in_err-a.ensures)

pub index-returns-in_ok-a-2 : goal.index-returns-in_ok-a-2
index-returns-in_ok-a-2 t c =
    let o = c.opens_index.ensures.0 c.if-opens_index.true in
    let s : c.args.levels ≡ suc (c.args.levels - 1) = omega arith in
    rw c.in_ok-a-2.ensures.ok (reads_too (index_within c.args.levels (c.args.levels - 1) s o.begins) c.in_ok-a.ensures)

pub index-returns-else-opens_index : goal.index-returns-else-opens_index
index-returns-else-opens_index t c = no_index c.args.levels c.args.room (λ o. (let e = c.opens_index.ensures.1 o in absurd cc))

pub named-returns-in_err-index : goal.named-returns-in_err-index
named-returns-in_err-index t c =
    let p = err_from_is_err_and c.from_residual.result c.from_residual.ensures.1 in
    rw (p.1, p.2) (fails_too (then_leads within_returned within_returned) c.in_err-index.ensures)

pub named-returns : goal.named-returns
named-returns t c = rw (shape_Var c.in_ok-name.name c.args.at c.in_ok-index.index, c.in_ok-name.ensures, c.as_slice.ensures) (reads_too (then_leads within_returned within_returned) c.in_ok-index.ensures)

pub signed-returns-in_err-a : goal.signed-returns-in_err-a
signed-returns-in_err-a t c =
    let p = err_from_is_err_and c.from_residual.result c.from_residual.ensures.1 in
    rw (p.1, p.2) (fails_too within_returned c.in_err-a.ensures)

pub tail-returns-in_err-kept : goal.tail-returns-in_err-kept
tail-returns-in_err-kept t c =
    let p = err_from_is_err_and c.from_residual.result c.from_residual.ensures.1 in
    let s : suc (c.args.k - 1) ≡ c.args.k = omega arith in
    let is : op_at c.args.k c.in-Some.t.now ≡ Some c.in-Some-op_of.op = sym c.op_of.ensures ∙ c.in-Some-op_of.is in
    rw (p.1, p.2) (fails_too c.chain.invariant (tail_stuck (c.args.k - 1) c.args.k c.args.levels s c.in-Some.ensures is (omega arith) (kept_fails (λ x. (model_of_src_expr x.0, x.1.now)) c.chain-in-Some.ensures c.in_err-kept.ensures.stopped)))

pub tail-chain-preserved : goal.tail-chain-preserved
tail-chain-preserved t c =
    let s : suc (c.args.k - 1) ≡ c.args.k = omega arith in
    let is : op_at c.args.k c.in-Some.t.now ≡ Some c.in-Some-op_of.op = sym c.op_of.ensures ∙ c.in-Some-op_of.is in
    let right = kept_reads (λ x. (model_of_src_expr x.0, x.1.now)) c.chain-in-Some.ensures c.in_ok-kept.ensures.read.1 in
    let made = rw c.in_ok-kept.ensures.read.0 at c.in_ok-left.ensures.made in
    then_leads (tail_on (c.args.k - 1) c.args.k c.args.levels s c.in-Some.ensures is (omega arith) made right) c.chain.invariant

pub tail-returns : goal.tail-returns
tail-returns t c =
    let s : suc (c.args.k - 1) ≡ c.args.k = omega arith in
    c.chain.invariant.reads (model_of_src_expr c.chain.left) c.chain.rest.now (tail_stop (c.args.k - 1) c.args.k c.args.levels s (λ u o h is. elim c.match-front.branch [
      | tail-in-Some+in_default-op_of w ↦
          let e : head c.chain.rest.now ≡ Some w.in-Some.t.now = ap head w.in-Some.ensures in
          let ut : u ≡ w.in-Some.t.now = cc in
          let f : op_at c.args.k w.in-Some.t.now ≡ None = sym w.op_of.ensures ∙ w.in_default-op_of.is in
          absurd cc
      | tail-in-Some+in-Some-op_of+then-spare-lt2 w ↦ omega arith
      | tail-in_default w ↦ let e : head c.chain.rest.now ≡ None = ap head w.in_default.ensures in absurd cc
    ]))

pub unary-returns-in_default : goal.unary-returns-in_default
unary-returns-in_default t c = unary_ended c.args.levels c.requires c.in_default.ensures

pub unary-returns-then-not-has_room : goal.unary-returns-then-not-has_room
unary-returns-then-not-has_room t c = not_opened c.args.levels c.requires c.in-Some.ensures (sym c.opening_of.ensures ∙ c.in-Some-opening_of.is)
    (λ level fits. (let f : c.least_of.result ≤ c.args.room = omega arith in let e = c.has_room.ensures.1 (record { level = level; fits = f }) in absurd cc))

pub unary-returns-in-Some-opening_of : goal.unary-returns-in-Some-opening_of
unary-returns-in-Some-opening_of t c =
    let r = c.has_room.ensures.0 c.if-not-has_room.false in
    let one : 1 ≤ c.args.levels = r.level in
    let s : c.args.levels ≡ suc (c.args.levels - 1) = omega arith in
    gives_too (λ x. (model_of_src_expr x.0, x.1.now)) (open_within c.args.levels (c.args.levels - 1) s c.requires c.in-Some.ensures (sym c.opening_of.ensures ∙ c.in-Some-opening_of.is)) c.opened.result c.opened.ensures

pub unary-returns-in-Number : goal.unary-returns-in-Number
unary-returns-in-Number t c = number_within c.args.levels c.requires c.in-Some.ensures c.in-Number.is

pub unary-returns-in-Name : goal.unary-returns-in-Name
unary-returns-in-Name t c = gives_too (λ x. (model_of_src_expr x.0, x.1.now)) (named_within c.args.levels c.requires c.in-Some.ensures c.in-Name.is) c.named.result c.named.ensures

pub unary-returns-in_default-word : goal.unary-returns-in_default-word
unary-returns-in_default-word t c = unary_missed c.args.levels c.requires c.in-Some.ensures (sym c.opening_of.ensures ∙ c.in_default-opening_of.is) c.in_default-word.not-Name c.in_default-word.not-Number
