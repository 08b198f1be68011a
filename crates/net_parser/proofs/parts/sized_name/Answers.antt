use Rattle.std.proofs.lemmas.Result.{err_from_is_err_and}
use Rattle.grammar.proofs.Steps.{return_reads}
use Rattle.grammar.proofs.Passing.{there_return, there_bind, on, past, stuck}
use Rattle.grammar.proofs.Tokens.{there_number, there_behind}
use Rattle.net_parser.proofs.parts.sized_name.Goals as goal

pub returns-in_err-name : goal.returns-in_err-name
returns-in_err-name c =
    let p = err_from_is_err_and c.from_residual.result c.from_residual.ensures.1 in
    rw (p.1, p.2) (stuck (λ n. there_bind (there_behind there_number) (λ w. there_return)) c.in_err-name.ensures)

pub returns-in_err-width : goal.returns-in_err-width
returns-in_err-width c =
    let p = err_from_is_err_and c.from_residual-in_err-width.result c.from_residual-in_err-width.ensures.1 in
    rw (p.1, p.2) (past c.in_ok-name.ensures (stuck (λ w. there_return) c.in_err-width.ensures))

pub returns : goal.returns
returns c = on c.in_ok-name.ensures (on c.in_ok-width.ensures return_reads)
