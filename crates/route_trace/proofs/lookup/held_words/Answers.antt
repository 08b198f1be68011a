use Rattle.std.proofs.Common.{◌≡◌, ℕ, ◌&&◌, not, ◌∙◌}
use Rattle.std.proofs.lemmas.Result.{IfOk-weaker, IfOk-from_err}
use Rattle.bit_bdd.specs.Diagrams.{has_word}
use Rattle.bit_bdd.proofs.CallerLemmas.{same_words}
use Rattle.transfer_set.specs.Routes.{exprs_under}
use Rattle.route_trace.specs.Inner.Lookups.{is_free}
use Rattle.route_trace.proofs.Lookups.{but_free}
use Rattle.route_trace.proofs.lookup.held_words.Goals as goal

pub returns-clause-words : goal.returns-clause-words
returns-clause-words c =
    IfOk-weaker c.without.result (λ id. (word : ℕ) → has_word c.without.new.book id word ≡ (has_word c.not_held.new.book c.args.set word && not (has_word c.not_held.new.book c.in_ok-free.free word)))
    (λ id. (word : ℕ) → has_word c.without.new.book id word ≡ (has_word c.args.book.now c.args.set word && not (is_free (exprs_under c.args.book.now c.args.routes.now word))))
    (λ id is word.
    (let e = same_words c.args.book.now c.not_held.new.book c.in_ok-free.ensures.book c.args.set c.requires.set word in
    let f = c.in_ok-free.ensures.words word in
    is word ∙ (λ j. e j && not (f j)) ∙ but_free (has_word c.args.book.now c.args.set word) (is_free (exprs_under c.args.book.now c.args.routes.now word))))
    c.without.ensures.words

pub returns-in_err-free-clause-within : goal.returns-in_err-free-clause-within
returns-in_err-free-clause-within c = IfOk-from_err c.from_residual.result _ c.from_residual.ensures.0

pub returns-in_err-free-clause-words : goal.returns-in_err-free-clause-words
returns-in_err-free-clause-words c = IfOk-from_err c.from_residual.result _ c.from_residual.ensures.0
