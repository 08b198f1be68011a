use Rattle.std.proofs.lemmas.Result.{err_from_is_err_and}
use Rattle.grammar.proofs.Steps.{return_reads}
use Rattle.grammar.proofs.Passing.{there_return, there_bind, on, past, stuck}
use Rattle.grammar.proofs.Tokens.{there_sign, there_name, there_behind, there_before}
use Rattle.net_parser.proofs.ItemParts.{there_links}
use Rattle.net_parser.proofs.item.part.Goals as goal

pub returns-in_err-name : goal.returns-in_err-name
returns-in_err-name c =
    let p = err_from_is_err_and c.from_residual.result c.from_residual.ensures.1 in
    rw (p.1, p.2) (stuck (λ x. there_bind (there_behind there_name) (λ y. there_bind (there_behind (there_before there_links)) (λ y. there_bind there_sign (λ y. there_return)))) c.in_err-name.ensures)

pub returns-in_err-module : goal.returns-in_err-module
returns-in_err-module c =
    let p = err_from_is_err_and c.from_residual-in_err-module.result c.from_residual-in_err-module.ensures.1 in
    rw (p.1, p.2) (past c.in_ok-name.ensures (stuck (λ x. there_bind (there_behind (there_before there_links)) (λ y. there_bind there_sign (λ y. there_return))) c.in_err-module.ensures))

pub returns-in_err-links : goal.returns-in_err-links
returns-in_err-links c =
    let p = err_from_is_err_and c.from_residual-in_err-links.result c.from_residual-in_err-links.ensures.1 in
    rw (p.1, p.2) (past c.in_ok-name.ensures (past c.in_ok-module.ensures (stuck (λ x. there_bind there_sign (λ y. there_return)) c.in_err-links.ensures)))

pub returns-in_err-rest : goal.returns-in_err-rest
returns-in_err-rest c =
    let p = err_from_is_err_and c.from_residual-in_err-rest.result c.from_residual-in_err-rest.ensures.1 in
    rw (p.1, p.2) (past c.in_ok-name.ensures (past c.in_ok-module.ensures (past c.in_ok-links.ensures (stuck (λ x. there_return) c.in_err-rest.ensures))))

pub returns : goal.returns
returns c = on c.in_ok-name.ensures (on c.in_ok-module.ensures (on c.in_ok-links.ensures (on c.in_ok-rest.ensures return_reads)))
