use Rattle.std.proofs.Common.{[], ◌∷◌, ◌++◌, ap, ◌∙◌}
use Rattle.std.proofs.lemmas.Result.{err_from_is_err_and}
use Rattle.grammar.specs.Reading.{head}
use Rattle.grammar.proofs.Passing.{there_return, there_bind, there_many, never_apart, beyond, stuck}
use Rattle.grammar.proofs.Repeats.{list_ends, list_fails, list_goes_on}
use Rattle.grammar.proofs.Passing.{then_leads}
use Rattle.net_parser.proofs.ItemParts.{driven, not_so, list_start}
use Rattle.net_model.specs.Written.{driver_of}
use Rattle.net_parser.proofs.parts.drivers.Goals as goal

pub returns-in_err-first : goal.returns-in_err-first
returns-in_err-first c =
    let p = err_from_is_err_and c.from_residual.result c.from_residual.ensures.1 in
    rw (p.1, p.2) (stuck (λ f. there_bind there_many (λ o. there_return)) c.in_err-first.ensures)

pub others-init : goal.others-init
others-init c = then_leads (list_start driver_of (c.in_ok-push.ensures.pushed ∙ ap (λ xs. xs ++ c.in_ok-first.first ∷ []) c.new-drivers.ensures)) (beyond never_apart c.in_ok-first.ensures)

pub returns-in_err-other : goal.returns-in_err-other
returns-in_err-other c =
    let p = err_from_is_err_and c.from_residual-in_err-other.result c.from_residual-in_err-other.ensures.1 in
    rw (p.1, p.2) (let b = c.begins_expr.ensures.0 c.others-test.true in list_fails driven driver_of c.others.drivers (λ vs. vs) c.others.invariant (ap head b.parts) b.is c.in_err-other.ensures)

pub others-preserved : goal.others-preserved
others-preserved c = let b = c.begins_expr.ensures.0 c.others-test.true in rw c.in_ok-push-2.ensures.pushed (list_goes_on driven driver_of c.others.drivers (λ vs. vs) c.others.invariant (ap head b.parts) b.is c.in_ok-other.other c.in_ok-other.ensures)

pub returns : goal.returns
returns c = list_ends driven driver_of c.others.drivers (λ vs. vs) c.others.invariant (not_so c.begins_expr.ensures c.others-test.false)
