use Rattle.std.proofs.lemmas.Result.{err_from_is_err_and}
use Rattle.grammar.proofs.Passing.{fails_too, there_return, there_bind, there_maybe, on, past, stuck, returned, returned_reads}
use Rattle.src_parser.proofs.declaration.declared.Goals as goal

pub returns-in_err-ident : goal.returns-in_err-ident
returns-in_err-ident c =
    let p = err_from_is_err_and c.from_residual.result c.from_residual.ensures.1 in
    rw (p.1, p.2) (stuck (λ i. there_bind there_maybe (λ l. there_return)) c.in_err-ident.ensures)

pub returns-in_err-len : goal.returns-in_err-len
returns-in_err-len c =
    let p = err_from_is_err_and c.from_residual-in_err-len.result c.from_residual-in_err-len.ensures.1 in
    rw (p.1, p.2) (past c.in_ok-ident.ensures (fails_too returned c.in_err-len.ensures))

pub returns : goal.returns
returns c = on c.in_ok-ident.ensures (returned_reads c.in_ok-len.ensures)
