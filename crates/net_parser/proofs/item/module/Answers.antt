use Rattle.std.proofs.lemmas.Result.{err_from_is_err_and}
use Rattle.grammar.proofs.Steps.{return_reads}
use Rattle.grammar.proofs.Passing.{there_return, there_bind, there_many, on, past, stuck}
use Rattle.grammar.proofs.Tokens.{there_behind, there_before}
use Rattle.net_parser.proofs.ItemParts.{there_ports}
use Rattle.net_parser.proofs.item.module.Goals as goal

pub returns-in_err-name : goal.returns-in_err-name
returns-in_err-name c =
    let p = err_from_is_err_and c.from_residual.result c.from_residual.ensures.1 in
    rw (p.1, p.2) (stuck (λ x. there_bind (there_behind (there_before there_ports)) (λ y. there_bind (there_behind (there_before there_many)) (λ y. there_return))) c.in_err-name.ensures)

pub returns-in_err-ports : goal.returns-in_err-ports
returns-in_err-ports c =
    let p = err_from_is_err_and c.from_residual-in_err-ports.result c.from_residual-in_err-ports.ensures.1 in
    rw (p.1, p.2) (past c.in_ok-name.ensures (stuck (λ x. there_bind (there_behind (there_before there_many)) (λ y. there_return)) c.in_err-ports.ensures))

pub returns-in_err-equations : goal.returns-in_err-equations
returns-in_err-equations c =
    let p = err_from_is_err_and c.from_residual-in_err-equations.result c.from_residual-in_err-equations.ensures.1 in
    rw (p.1, p.2) (past c.in_ok-name.ensures (past c.in_ok-ports.ensures (stuck (λ x. there_return) c.in_err-equations.ensures)))

pub returns : goal.returns
returns c = on c.in_ok-name.ensures (on c.in_ok-ports.ensures (on c.in_ok-equations.ensures return_reads))
