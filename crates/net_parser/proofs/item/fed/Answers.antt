use Rattle.std.proofs.lemmas.Result.{err_from_is_err_and}
use Rattle.grammar.proofs.Steps.{return_reads}
use Rattle.grammar.proofs.Passing.{there_return, there_bind, beyond_reads, beyond_fails, short_of, on, stuck}
use Rattle.net_model.specs.Written.{when_of}
use Rattle.net_parser.proofs.ItemParts.{there_when_end, when_apart}
use Rattle.grammar.proofs.Kept.{kept_reads, kept_fails}
use Rattle.net_parser.proofs.item.fed.Goals as goal

pub returns-in_err-input : goal.returns-in_err-input
returns-in_err-input c =
    let p = err_from_is_err_and c.from_residual.result c.from_residual.ensures.1 in
    rw (p.1, p.2) (short_of when_apart (λ x. there_bind there_when_end (λ y. there_return)) c.in_err-input.ensures)

pub returns-in_err-input-2 : goal.returns-in_err-input-2
returns-in_err-input-2 c =
    let p = err_from_is_err_and c.from_residual-in_err-input-2.result c.from_residual-in_err-input-2.ensures.1 in
    rw (p.1, p.2) (beyond_fails when_apart c.in_ok-input.ensures (stuck (λ x. there_return) (kept_fails (λ x. (when_of x.0, x.1.now)) c.when_end.ensures c.in_err-input-2.ensures.stopped)))

pub returns : goal.returns
returns c =
    let when = kept_reads (λ x. (when_of x.0, x.1.now)) c.when_end.ensures c.in_ok-input-2.ensures.read.1 in
    rw c.in_ok-input-2.ensures.read.0 (beyond_reads when_apart c.in_ok-input.ensures (on when return_reads))
