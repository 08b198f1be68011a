use Rattle.std.proofs.Common.{arith}
use Rattle.view_terms.specs.Terms.{model_of_term}
use Rattle.view_terms.proofs.Giving.{called_gives, leaf_gives}
use Rattle.view_terms.proofs.reading.+term.Goals as goal

pub term-returns-in-Some : goal.term-returns-in-Some
term-returns-in-Some t c =
    called_gives (λ x. (model_of_term x.0, x.1.now)) c.args.levels c.args.text.now c.first_word.result.0.now c.first_word.result.1.now c.in-Some.inner.now c.called.result
    (omega (arith, c.if-levels-eq0.false)) c.first_word.ensures.word c.first_word.ensures.rest c.in-Some.ensures c.called.ensures

pub term-returns-in-None : goal.term-returns-in-None
term-returns-in-None t c =
    leaf_gives (λ x. (model_of_term x.0, x.1.now)) c.args.levels c.args.text.now c.first_word.result.0.now c.first_word.result.1.now c.leaf-in-None.result
    (omega (arith, c.if-levels-eq0.false)) c.first_word.ensures.word c.first_word.ensures.rest c.in-None.ensures c.leaf-in-None.ensures
