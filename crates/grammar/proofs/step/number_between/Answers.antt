use Rattle.std.proofs.lemmas.Result.{err_from_is_err_and}
use Rattle.grammar.proofs.Steps.{return_reads}
use Rattle.grammar.proofs.Passing.{there_return, there_bind, on, past, stuck}
use Rattle.grammar.proofs.Tokens.{there_sign}
use Rattle.grammar.proofs.step.number_between.Goals as goal

pub returns-in_err-number : goal.returns-in_err-number
returns-in_err-number g c =
    let p = err_from_is_err_and c.from_residual.result c.from_residual.ensures.1 in
    rw (p.1, p.2) (stuck (λ n. there_bind there_sign (λ u. there_return)) c.in_err-number.ensures)

pub returns-in_err-rest : goal.returns-in_err-rest
returns-in_err-rest g c =
    let p = err_from_is_err_and c.from_residual-in_err-rest.result c.from_residual-in_err-rest.ensures.1 in
    rw (p.1, p.2) (past c.in_ok-number.ensures (stuck (λ u. there_return) c.in_err-rest.ensures))

pub returns : goal.returns
returns g c = on c.in_ok-number.ensures (on c.in_ok-rest.ensures return_reads)
