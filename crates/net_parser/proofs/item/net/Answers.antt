use Rattle.std.proofs.lemmas.Result.{err_from_is_err_and}
use Rattle.grammar.proofs.Steps.{return_reads}
use Rattle.grammar.proofs.Passing.{there_return, there_bind, on, past, stuck}
use Rattle.grammar.proofs.Tokens.{there_behind, there_before}
use Rattle.net_parser.proofs.Expressions.{there_expr}
use Rattle.net_parser.proofs.item.net.Goals as goal

pub returns-in_err-name : goal.returns-in_err-name
returns-in_err-name c =
    let p = err_from_is_err_and c.from_residual.result c.from_residual.ensures.1 in
    rw (p.1, p.2) (stuck (λ x. there_bind (there_before (there_behind (there_expr 64))) (λ y. there_return)) c.in_err-name.ensures)

pub returns-in_err-value : goal.returns-in_err-value
returns-in_err-value c =
    let p = err_from_is_err_and c.from_residual-in_err-value.result c.from_residual-in_err-value.ensures.1 in
    rw (p.1, p.2) (past c.in_ok-name.ensures (stuck (λ x. there_return) c.in_err-value.ensures))

pub returns : goal.returns
returns c = on c.in_ok-name.ensures (on c.in_ok-value.ensures return_reads)
