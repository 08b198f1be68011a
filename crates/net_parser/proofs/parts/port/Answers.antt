use Rattle.std.proofs.lemmas.Result.{err_from_is_err_and}
use Rattle.grammar.proofs.Steps.{return_reads}
use Rattle.grammar.proofs.Passing.{there_return, there_bind, on, past, stuck}
use Rattle.net_parser.proofs.ItemParts.{there_sized}
use Rattle.net_parser.proofs.parts.port.Goals as goal

pub returns-in_err-output : goal.returns-in_err-output
returns-in_err-output c =
    let p = err_from_is_err_and c.from_residual.result c.from_residual.ensures.1 in
    rw (p.1, p.2) (stuck (λ o. there_bind there_sized (λ s. there_return)) c.in_err-output.ensures)

pub returns-in_err-name : goal.returns-in_err-name
returns-in_err-name c =
    let p = err_from_is_err_and c.from_residual-in_err-name.result c.from_residual-in_err-name.ensures.1 in
    rw (p.1, p.2) (past c.in_ok-output.ensures (stuck (λ s. there_return) c.in_err-name.ensures))

pub returns : goal.returns
returns c = on c.in_ok-output.ensures (on c.in_ok-name.ensures return_reads)
