use Rattle.std.proofs.Common.{[], ◌∷◌, ◌++◌, ap, ◌∙◌}
use Rattle.std.proofs.lemmas.Result.{err_from_is_err_and}
use Rattle.grammar.specs.Reading.{head}
use Rattle.grammar.proofs.Repeats.{list_ends, list_fails, list_goes_on}
use Rattle.grammar.proofs.Tokens.{not_there}
use Rattle.src_parser.proofs.Declarations.{listed, others_start, others_end}
use Rattle.src_parser.proofs.declaration.others.Goals as goal

pub others-init : goal.others-init
others-init c = others_start (c.in_ok-push.ensures.items ∙ ap (λ xs. xs ++ c.args.first ∷ []) c.new-vars.ensures.items)

pub returns-in_err-other : goal.returns-in_err-other
returns-in_err-other c =
    let p = err_from_is_err_and c.from_residual-in_err-other.result c.from_residual-in_err-other.ensures.1 in
    rw (p.1, p.2) (let b = c.begins_with.ensures.0 c.others-test.true in list_fails listed (λ v. v) c.others.vars.items (λ vs. vs) c.others.invariant (ap head b.parts) b.is c.in_err-other.ensures)

pub others-preserved : goal.others-preserved
others-preserved c = let b = c.begins_with.ensures.0 c.others-test.true in rw c.in_ok-push-2.ensures.items (list_goes_on listed (λ v. v) c.others.vars.items (λ vs. vs) c.others.invariant (ap head b.parts) b.is c.in_ok-other.other c.in_ok-other.ensures)

pub returns : goal.returns
returns c = others_end (list_ends listed (λ v. v) c.others.vars.items (λ vs. vs) c.others.invariant (not_there c.begins_with.ensures c.others-test.false))
