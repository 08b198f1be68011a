use Rattle.std.proofs.lemmas.Result.{err_from_is_err_and}
use Rattle.grammar.proofs.Steps.{return_reads}
use Rattle.grammar.proofs.Passing.{there_return, there_bind, on, past, stuck}
use Rattle.grammar.proofs.Tokens.{there_name, there_number, there_behind, there_before}
use Rattle.net_parser.proofs.item.code.Goals as goal

pub returns-in_err-name : goal.returns-in_err-name
returns-in_err-name c =
    let p = err_from_is_err_and c.from_residual.result c.from_residual.ensures.1 in
    rw (p.1, p.2) (stuck (λ s. there_bind (there_behind there_number) (λ y. there_bind (there_before (there_behind there_name)) (λ y. there_return))) c.in_err-name.ensures)

pub returns-in_err-size : goal.returns-in_err-size
returns-in_err-size c =
    let p = err_from_is_err_and c.from_residual-in_err-size.result c.from_residual-in_err-size.ensures.1 in
    rw (p.1, p.2) (past c.in_ok-name.ensures (stuck (λ n. there_bind (there_before (there_behind there_name)) (λ y. there_return)) c.in_err-size.ensures))

pub returns-in_err-counter : goal.returns-in_err-counter
returns-in_err-counter c =
    let p = err_from_is_err_and c.from_residual-in_err-counter.result c.from_residual-in_err-counter.ensures.1 in
    rw (p.1, p.2) (past c.in_ok-name.ensures (past c.in_ok-size.ensures (stuck (λ x. there_return) c.in_err-counter.ensures)))

pub returns : goal.returns
returns c = on c.in_ok-name.ensures (on c.in_ok-size.ensures (on c.in_ok-counter.ensures return_reads))
