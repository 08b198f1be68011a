use Rattle.std.proofs.lemmas.Result.{err_from_is_err_and}
use Rattle.grammar.proofs.Steps.{return_reads}
use Rattle.grammar.proofs.Passing.{there_return, there_bind, on, past, stuck}
use Rattle.net_parser.proofs.ItemParts.{there_fed}
use Rattle.net_parser.proofs.item.register.Goals as goal

pub returns-in_err-name : goal.returns-in_err-name
returns-in_err-name c =
    let p = err_from_is_err_and c.from_residual.result c.from_residual.ensures.1 in
    rw (p.1, p.2) (stuck (λ x. there_bind there_fed (λ y. there_return)) c.in_err-name.ensures)

pub returns-in_err-input : goal.returns-in_err-input
returns-in_err-input c =
    let p = err_from_is_err_and c.from_residual-in_err-input.result c.from_residual-in_err-input.ensures.1 in
    rw (p.1, p.2) (past c.in_ok-name.ensures (stuck (λ x. there_return) c.in_err-input.ensures))

pub returns : goal.returns
returns c = on c.in_ok-name.ensures (on c.in_ok-input.ensures return_reads)
