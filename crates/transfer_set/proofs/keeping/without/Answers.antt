use Rattle.std.proofs.Common.{◌&&◌, not, true, ap, sym, ◌∙◌}
use Rattle.std.proofs.lemmas.Bool.{eq-eqb}
use Rattle.std.proofs.lemmas.Result.{IfOk-weaker, IfOk-from_err}
use Rattle.bit_bdd.specs.Diagrams.{has_word}
use Rattle.bit_bdd.proofs.CallerLemmas.{same_words, extends_trans, still_within}
use Rattle.transfer_set.proofs.keeping.without.Goals as goal

pub and-requires-clause-a : goal.and-requires-clause-a
and-requires-clause-a c = still_within c.args.book.now c.not.new.self c.in_ok-others.ensures.grows c.args.left c.requires.left

pub returns-clause-grows : goal.returns-clause-grows
returns-clause-grows c = extends_trans c.args.book.now c.not.new.self c.and.new.self c.in_ok-others.ensures.grows c.and.ensures.grows

pub returns-clause-words : goal.returns-clause-words
returns-clause-words c = IfOk-weaker c.and.result _ _ (λ id kept word.
    let left = same_words c.args.book.now c.not.new.self c.not.ensures.grows c.args.left c.requires.left word in
    let others = c.in_ok-others.ensures.words word in
    kept word
    ∙ (λ j. left j && others j)
    ∙ ap (λ b. has_word c.args.book.now c.args.left word && not (b && has_word c.args.book.now c.args.entry.set word)) {x = true} (sym (eq-eqb c.args.entry.storage c.args.storage c.if-entry-storage.false)))
    c.and.ensures.words

pub returns-in_err-others-clause-within : goal.returns-in_err-others-clause-within
returns-in_err-others-clause-within c = IfOk-from_err c.from_residual.result _ c.from_residual.ensures.0

pub returns-in_err-others-clause-words : goal.returns-in_err-others-clause-words
returns-in_err-others-clause-words c = IfOk-from_err c.from_residual.result _ c.from_residual.ensures.0
