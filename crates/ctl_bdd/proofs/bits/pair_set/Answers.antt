use Rattle.std.proofs.lemmas.Result.{IfOk-from_err}
use Rattle.std.proofs.Common.{if◌then◌else◌, ◌∙◌}
use Rattle.bit_bdd.proofs.CallerLemmas.{same_words}
use Rattle.ctl_bdd.proofs.bits.pair_set.Goals as goal

pub returns-in_ok-id-in-Xor-clause-words : goal.returns-in_ok-id-in-Xor-clause-words
returns-in_ok-id-in-Xor-clause-words c word =
    let e = same_words c.args.book.now c.not.new.self c.in_ok-other-in-Xor.ensures.grows c.args.a c.requires.a word in
    let f = same_words c.args.book.now c.not.new.self c.in_ok-other-in-Xor.ensures.grows c.args.b c.requires.b word in
    let g = c.in_ok-other-in-Xor.ensures.words word in
    rw c.in-Xor.is (c.in_ok-id-in-Xor.ensures.words word ∙ (λ j. if e j then g j else f j))

pub returns-in_err-id-in-Xor-clause-within : goal.returns-in_err-id-in-Xor-clause-within
returns-in_err-id-in-Xor-clause-within c = IfOk-from_err c.from_residual-in_err-id-in-Xor.result _ c.from_residual-in_err-id-in-Xor.ensures.0

pub returns-in_err-id-in-Xor-clause-words : goal.returns-in_err-id-in-Xor-clause-words
returns-in_err-id-in-Xor-clause-words c = IfOk-from_err c.from_residual-in_err-id-in-Xor.result _ c.from_residual-in_err-id-in-Xor.ensures.0

pub returns-in_err-other-in-Xor-clause-within : goal.returns-in_err-other-in-Xor-clause-within
returns-in_err-other-in-Xor-clause-within c = IfOk-from_err c.from_residual.result _ c.from_residual.ensures.0

pub returns-in_err-other-in-Xor-clause-words : goal.returns-in_err-other-in-Xor-clause-words
returns-in_err-other-in-Xor-clause-words c = IfOk-from_err c.from_residual.result _ c.from_residual.ensures.0
