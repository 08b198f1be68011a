use Rattle.std.proofs.lemmas.Result.{err_from_is_err_and}
use Rattle.grammar.proofs.Passing.{stuck, beyond, never_apart, gives_too}
use Rattle.grammar.proofs.Tokens.{there_name}
use Rattle.grammar.proofs.step.name_behind.Goals as goal

pub returns-in_err-rest : goal.returns-in_err-rest
returns-in_err-rest g c =
    let p = err_from_is_err_and c.from_residual.result c.from_residual.ensures.1 in
    rw (p.1, p.2) (stuck (λ u. there_name) c.in_err-rest.ensures)

pub returns : goal.returns
returns g c = gives_too (λ x. (x.0, x.1.now)) (beyond never_apart c.in_ok-rest.ensures) c.name.result c.name.ensures
