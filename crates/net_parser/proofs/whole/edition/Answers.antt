use Rattle.std.proofs.lemmas.Result.{err_from_is_err_and}
use Rattle.grammar.proofs.Steps.{return_reads}
use Rattle.grammar.proofs.Passing.{there_return, there_bind, on, past, stuck}
use Rattle.grammar.proofs.Tokens.{there_sign, there_before}
use Rattle.net_parser.proofs.Heads.{there_edition_number}
use Rattle.net_parser.proofs.whole.edition.Goals as goal

pub returns-in_err-rest : goal.returns-in_err-rest
returns-in_err-rest c =
    let p = err_from_is_err_and c.from_residual.result c.from_residual.ensures.1 in
    rw (p.1, p.2) (stuck (λ u. there_before there_edition_number) c.in_err-rest.ensures)

pub returns-in_err-edition : goal.returns-in_err-edition
returns-in_err-edition c =
    let p = err_from_is_err_and c.from_residual-in_err-edition.result c.from_residual-in_err-edition.ensures.1 in
    rw (p.1, p.2) (past c.in_ok-rest.ensures (stuck (λ n. there_bind there_sign (λ u. there_return)) c.in_err-edition.ensures))

pub returns-in_err-rest-2 : goal.returns-in_err-rest-2
returns-in_err-rest-2 c =
    let p = err_from_is_err_and c.from_residual-in_err-rest-2.result c.from_residual-in_err-rest-2.ensures.1 in
    rw (p.1, p.2) (past c.in_ok-rest.ensures (past c.in_ok-edition.ensures (stuck (λ u. there_return) c.in_err-rest-2.ensures)))

pub returns : goal.returns
returns c = on c.in_ok-rest.ensures (on c.in_ok-edition.ensures (on c.in_ok-rest-2.ensures return_reads))
