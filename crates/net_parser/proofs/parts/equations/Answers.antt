use Rattle.std.proofs.Common.{ap}
use Rattle.std.proofs.lemmas.Result.{err_from_is_err_and}
use Rattle.grammar.specs.Reading.{head}
use Rattle.grammar.proofs.Repeats.{list_ends, list_fails, list_goes_on}
use Rattle.grammar.proofs.Passing.{same_leads}
use Rattle.net_parser.proofs.ItemParts.{equated, not_so}
use Rattle.net_model.specs.Written.{binding_of}
use Rattle.net_parser.proofs.parts.equations.Goals as goal

pub others-init : goal.others-init
others-init c = rw c.new-equations.ensures same_leads

pub returns-in_err-other : goal.returns-in_err-other
returns-in_err-other c =
    let p = err_from_is_err_and c.from_residual.result c.from_residual.ensures.1 in
    rw (p.1, p.2) (let b = c.begins_name.ensures.0 c.others-test.true in list_fails equated binding_of c.others.equations (λ vs. vs) c.others.invariant (ap head b.parts) b.is c.in_err-other.ensures)

pub others-preserved : goal.others-preserved
others-preserved c = let b = c.begins_name.ensures.0 c.others-test.true in rw c.in_ok-push.ensures.pushed (list_goes_on equated binding_of c.others.equations (λ vs. vs) c.others.invariant (ap head b.parts) b.is c.in_ok-other.other c.in_ok-other.ensures)

pub returns : goal.returns
returns c = list_ends equated binding_of c.others.equations (λ vs. vs) c.others.invariant (not_so c.begins_name.ensures c.others-test.false)
