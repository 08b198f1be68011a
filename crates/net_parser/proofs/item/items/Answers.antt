use Rattle.std.proofs.Common.{[], ◌∷◌, ◌++◌, ap, ◌∙◌}
use Rattle.std.proofs.lemmas.Result.{err_from_is_err_and}
use Rattle.grammar.specs.Reading.{head}
use Rattle.grammar.proofs.Passing.{fails_too, there_return, there_bind, there_many, never_apart, beyond, stuck, reads_too, then_leads}
use Rattle.grammar.proofs.Repeats.{list_ends, list_fails, list_goes_on}
use Rattle.grammar.proofs.Tokens.{word_leads}
use Rattle.net_parser.proofs.ItemParts.{itemed, list_start}
use Rattle.net_model.specs.Grammar.{ItemByWord}
use Rattle.net_model.specs.Written.{model_of_unit}
use Rattle.net_parser.proofs.item.items.Goals as goal

pub returns-in_err-first : goal.returns-in_err-first
returns-in_err-first c =
    let p = err_from_is_err_and c.from_residual.result c.from_residual.ensures.1 in
    rw (p.1, p.2) (stuck (λ f. there_bind there_many (λ o. there_return)) c.in_err-first.ensures)

pub others-init : goal.others-init
others-init c = then_leads (list_start model_of_unit (c.in_ok-push.ensures.pushed ∙ ap (λ xs. xs ++ c.in_ok-first.first ∷ []) c.new-items.ensures)) (beyond never_apart c.in_ok-first.ensures)

pub returns-in_err-other : goal.returns-in_err-other
returns-in_err-other c =
    let p = err_from_is_err_and c.from_residual-in_err-other.result c.from_residual-in_err-other.ensures.1 in
    rw (p.1, p.2) (let o = c.in-Some.ensures in list_fails itemed model_of_unit c.others.items (λ vs. vs) c.others.invariant (ap head o.parts) (c.in-Some.word, o.is) (fails_too (word_leads ItemByWord o.parts o.is) c.in_err-other.ensures))

pub others-preserved : goal.others-preserved
others-preserved c = let o = c.in-Some.ensures in rw c.in_ok-push-2.ensures.pushed (list_goes_on itemed model_of_unit c.others.items (λ vs. vs) c.others.invariant (ap head o.parts) (c.in-Some.word, o.is) c.in_ok-other.other (reads_too (word_leads ItemByWord o.parts o.is) c.in_ok-other.ensures))

pub returns : goal.returns
returns c = list_ends itemed model_of_unit c.others.items (λ vs. vs) c.others.invariant (λ t h b. c.in_default.ensures.never_so t h b.0 b.1)
