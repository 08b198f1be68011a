use Rattle.std.proofs.lemmas.Result.{IfOk-from_err}
use Rattle.std.proofs.Common.{if◌then◌else◌, ◌&&◌, ◌∙◌}
use Rattle.bit_bdd.proofs.CallerLemmas.{same_words, extends_trans, still_within}
use Rattle.ctl_bdd.proofs.bits.alike_set.Goals as goal

pub ite-requires-clause-c : goal.ite-requires-clause-c
ite-requires-clause-c c = still_within c.args.book.now c.not.new.self c.in_ok-other.ensures.grows c.args.a c.requires.a

pub ite-requires-clause-a : goal.ite-requires-clause-a
ite-requires-clause-a c = still_within c.args.book.now c.not.new.self c.in_ok-other.ensures.grows c.args.b c.requires.b

pub and-requires-clause-a : goal.and-requires-clause-a
and-requires-clause-a c = still_within c.args.book.now c.ite.new.self (extends_trans c.args.book.now c.not.new.self c.ite.new.self c.in_ok-other.ensures.grows c.in_ok-same.ensures.grows) c.args.before c.requires.before

pub returns-in_err-same-clause-grows : goal.returns-in_err-same-clause-grows
returns-in_err-same-clause-grows c = extends_trans c.args.book.now c.not.new.self c.ite.new.self c.in_ok-other.ensures.grows c.in_err-same.ensures.grows

pub returns-in_err-all-clause-grows : goal.returns-in_err-all-clause-grows
returns-in_err-all-clause-grows c = extends_trans c.args.book.now c.ite.new.self c.and.new.self (extends_trans c.args.book.now c.not.new.self c.ite.new.self c.in_ok-other.ensures.grows c.in_ok-same.ensures.grows) c.in_err-all.ensures.grows

pub returns-clause-grows : goal.returns-clause-grows
returns-clause-grows c = extends_trans c.args.book.now c.ite.new.self c.and.new.self (extends_trans c.args.book.now c.not.new.self c.ite.new.self c.in_ok-other.ensures.grows c.in_ok-same.ensures.grows) c.in_ok-all.ensures.grows

pub returns-clause-words : goal.returns-clause-words
returns-clause-words c word =
    let both = extends_trans c.args.book.now c.not.new.self c.ite.new.self c.in_ok-other.ensures.grows c.in_ok-same.ensures.grows in
    let d = same_words c.args.book.now c.ite.new.self both c.args.before c.requires.before word in
    let e = same_words c.args.book.now c.not.new.self c.in_ok-other.ensures.grows c.args.a c.requires.a word in
    let f = same_words c.args.book.now c.not.new.self c.in_ok-other.ensures.grows c.args.b c.requires.b word in
    let g = c.in_ok-other.ensures.words word in
    let h = c.in_ok-same.ensures.words word ∙ (λ j. if e j then f j else g j) in
    c.in_ok-all.ensures.words word ∙ (λ j. d j && h j)

pub returns-in_err-other-clause-within : goal.returns-in_err-other-clause-within
returns-in_err-other-clause-within c = IfOk-from_err c.from_residual.result _ c.from_residual.ensures.0

pub returns-in_err-other-clause-words : goal.returns-in_err-other-clause-words
returns-in_err-other-clause-words c = IfOk-from_err c.from_residual.result _ c.from_residual.ensures.0

pub returns-in_err-same-clause-within : goal.returns-in_err-same-clause-within
returns-in_err-same-clause-within c = IfOk-from_err c.from_residual-in_err-same.result _ c.from_residual-in_err-same.ensures.0

pub returns-in_err-same-clause-words : goal.returns-in_err-same-clause-words
returns-in_err-same-clause-words c = IfOk-from_err c.from_residual-in_err-same.result _ c.from_residual-in_err-same.ensures.0
