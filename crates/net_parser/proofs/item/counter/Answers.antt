use Rattle.std.proofs.lemmas.Result.{err_from_is_err_and}
use Rattle.grammar.proofs.Steps.{return_reads}
use Rattle.grammar.proofs.Passing.{there_return, there_bind, on, past, stuck}
use Rattle.grammar.proofs.Tokens.{there_sign}
use Rattle.grammar.proofs.Kept.{kept_gives}
use Rattle.net_parser.proofs.item.counter.Goals as goal

pub returns-in_err-name : goal.returns-in_err-name
returns-in_err-name c =
    let p = err_from_is_err_and c.from_residual.result c.from_residual.ensures.1 in
    rw (p.1, p.2) (stuck (λ n. there_bind there_sign (λ u. there_return)) c.in_err-name.ensures)

pub returns : goal.returns
returns c =
    kept_gives (λ rest. (tt, rest.now)) (λ x. (x.0, x.1.now))
    (λ rest r. on c.in_ok-name.ensures (on r return_reads))
    (λ stop f. past c.in_ok-name.ensures (stuck (λ u. there_return) f))
    c.expect.result c.expect.ensures c.keeping.result c.keeping.ensures.read c.keeping.ensures.stopped
