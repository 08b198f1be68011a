use Rattle.std.proofs.lemmas.Result.{err_from_is_err_and}
use Rattle.grammar.proofs.Passing.{fails_too, there_return, there_bind, there_maybe, on, past, stuck, returned, returned_reads}
use Rattle.net_parser.proofs.leaf.range.Goals as goal

pub returns-in_err-high : goal.returns-in_err-high
returns-in_err-high c =
    let p = err_from_is_err_and c.from_residual.result c.from_residual.ensures.1 in
    rw (p.1, p.2) (stuck (λ hi. there_bind there_maybe (λ lo. there_return)) c.in_err-high.ensures)

pub returns-in_err-low : goal.returns-in_err-low
returns-in_err-low c =
    let p = err_from_is_err_and c.from_residual-in_err-low.result c.from_residual-in_err-low.ensures.1 in
    rw (p.1, p.2) (past c.in_ok-high.ensures (fails_too returned c.in_err-low.ensures))

pub returns : goal.returns
returns c = rw c.range_from.ensures (on c.in_ok-high.ensures (returned_reads c.in_ok-low.ensures))
