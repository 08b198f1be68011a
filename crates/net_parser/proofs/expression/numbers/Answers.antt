use Rattle.std.proofs.Common.{[], ◌∷◌, ◌++◌, ap, ◌∙◌}
use Rattle.std.proofs.lemmas.Result.{err_from_is_err_and}
use Rattle.grammar.specs.Reading.{head}
use Rattle.grammar.proofs.Repeats.{list_ends, list_fails, list_goes_on}
use Rattle.grammar.proofs.Tokens.{not_there}
use Rattle.net_parser.proofs.Expressions.{listed, numbers_start, numbers_end}
use Rattle.net_parser.proofs.expression.numbers.Goals as goal

pub others-init : goal.others-init
others-init c = numbers_start (c.in_ok-push.ensures.items ∙ ap (λ xs. xs ++ c.args.first ∷ []) c.new-numbers.ensures.items)

pub returns-in_err-number : goal.returns-in_err-number
returns-in_err-number c =
    let p = err_from_is_err_and c.from_residual-in_err-number.result c.from_residual-in_err-number.ensures.1 in
    rw (p.1, p.2) (let b = c.begins_with.ensures.0 c.others-test.true in list_fails listed (λ n. n) c.others.numbers.items (λ ns. ns) c.others.invariant (ap head b.parts) b.is c.in_err-number.ensures)

pub others-preserved : goal.others-preserved
others-preserved c = let b = c.begins_with.ensures.0 c.others-test.true in rw c.in_ok-push-2.ensures.items (list_goes_on listed (λ n. n) c.others.numbers.items (λ ns. ns) c.others.invariant (ap head b.parts) b.is c.in_ok-number.number c.in_ok-number.ensures)

pub returns : goal.returns
returns c = numbers_end (list_ends listed (λ n. n) c.others.numbers.items (λ ns. ns) c.others.invariant (not_there c.begins_with.ensures c.others-test.false))
