use Rattle.std.proofs.lemmas.Result.{err_from_is_err_and}
use Rattle.grammar.proofs.Passing.{fails_too, there_return, there_bind, on, past, stuck, returned, returned_reads}
use Rattle.grammar.proofs.Tokens.{there_behind}
use Rattle.net_parser.proofs.Expressions.{there_expr}
use Rattle.net_parser.proofs.parts.binding.Goals as goal

pub returns-in_err-name : goal.returns-in_err-name
returns-in_err-name c =
    let p = err_from_is_err_and c.from_residual.result c.from_residual.ensures.1 in
    rw (p.1, p.2) (stuck (λ n. there_bind (there_behind (there_expr 64)) (λ v. there_return)) c.in_err-name.ensures)

pub returns-in_err-value : goal.returns-in_err-value
returns-in_err-value c =
    let p = err_from_is_err_and c.from_residual-in_err-value.result c.from_residual-in_err-value.ensures.1 in
    rw (p.1, p.2) (past c.in_ok-name.ensures (fails_too returned c.in_err-value.ensures))

pub returns : goal.returns
returns c = on c.in_ok-name.ensures (returned_reads c.in_ok-value.ensures)
