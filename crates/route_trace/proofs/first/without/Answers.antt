use Rattle.std.proofs.Common.{◌&&◌, ◌∙◌}
use Rattle.std.proofs.lemmas.Result.{IfOk-from_err, IfOk-weaker}
use Rattle.bit_bdd.proofs.CallerLemmas.{extends_trans, same_words}
use Rattle.route_trace.proofs.first.without.Goals as goal

pub returns-clause-book : goal.returns-clause-book
returns-clause-book c = extends_trans c.args.book.now c.not.new.self c.and.new.self c.in_ok-outside.ensures.grows c.and.ensures.grows

pub returns-clause-words : goal.returns-clause-words
returns-clause-words c =
    IfOk-weaker c.and.result _ _
    (λ id held word.
    (let e = same_words c.args.book.now c.not.new.self c.in_ok-outside.ensures.grows c.args.set c.requires.set word in
    let f = c.in_ok-outside.ensures.words word in
    held word ∙ (λ j. e j && f j)))
    c.and.ensures.words

pub returns-in_err-outside-clause-within : goal.returns-in_err-outside-clause-within
returns-in_err-outside-clause-within c = IfOk-from_err c.from_residual.result _ c.from_residual.ensures.0

pub returns-in_err-outside-clause-words : goal.returns-in_err-outside-clause-words
returns-in_err-outside-clause-words c = IfOk-from_err c.from_residual.result _ c.from_residual.ensures.0
