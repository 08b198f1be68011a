use Rattle.std.proofs.Common.{[], ◌∷◌, ◌++◌, ap, ◌∙◌}
use Rattle.std.proofs.lemmas.Result.{err_from_is_err_and}
use Rattle.grammar.specs.Reading.{head}
use Rattle.grammar.proofs.Passing.{there_return, there_bind, there_many, never_apart, beyond, short_of, on, past, stuck, then_leads}
use Rattle.grammar.proofs.Repeats.{list_ends, list_fails, list_goes_on}
use Rattle.grammar.proofs.Tokens.{not_there}
use Rattle.net_parser.proofs.Expressions.{listed}
use Rattle.net_parser.proofs.ItemParts.{there_port, list_start, ports_end}
use Rattle.net_parser.proofs.parts.ports.Goals as goal

pub returns-in_err-first : goal.returns-in_err-first
returns-in_err-first c =
    let p = err_from_is_err_and c.from_residual.result c.from_residual.ensures.1 in
    rw (p.1, p.2) (short_of never_apart (λ f. there_bind there_many (λ o. there_return)) c.in_err-first.ensures)

pub others-init : goal.others-init
others-init c = then_leads (list_start (λ p. p) (c.in_ok-push.ensures.pushed ∙ ap (λ xs. xs ++ c.in_ok-first.first ∷ []) c.new-ports.ensures)) (beyond never_apart c.in_ok-first.ensures)

pub returns-in_err-next : goal.returns-in_err-next
returns-in_err-next c =
    let p = err_from_is_err_and c.from_residual-in_err-next.result c.from_residual-in_err-next.ensures.1 in
    rw (p.1, p.2) (let b = c.begins_with.ensures.0 c.others-test.true in list_fails listed (λ p. p) c.others.ports (λ vs. vs) c.others.invariant (ap head b.parts) b.is (stuck (λ u. there_port) c.in_err-next.ensures))

pub returns-in_err-other : goal.returns-in_err-other
returns-in_err-other c =
    let p = err_from_is_err_and c.from_residual-in_err-other.result c.from_residual-in_err-other.ensures.1 in
    rw (p.1, p.2) (let b = c.begins_with.ensures.0 c.others-test.true in list_fails listed (λ p. p) c.others.ports (λ vs. vs) c.others.invariant (ap head b.parts) b.is (past c.in_ok-next.ensures c.in_err-other.ensures))

pub others-preserved : goal.others-preserved
others-preserved c = let b = c.begins_with.ensures.0 c.others-test.true in rw c.in_ok-push-2.ensures.pushed (list_goes_on listed (λ p. p) c.others.ports (λ vs. vs) c.others.invariant (ap head b.parts) b.is c.in_ok-other.other (on c.in_ok-next.ensures c.in_ok-other.ensures))

pub returns : goal.returns
returns c = ports_end (list_ends listed (λ p. p) c.others.ports (λ vs. vs) c.others.invariant (not_there c.begins_with.ensures c.others-test.false))
