use Rattle.std.proofs.lemmas.Result.{err_from_is_err_and}
use Rattle.grammar.proofs.Passing.{fails_too, there_return, there_bind, beyond_reads, beyond_fails, short_of, returned, returned_reads}
use Rattle.net_parser.proofs.Heads.{head_apart, head_number, there_items}
use Rattle.net_parser.proofs.whole.front_text.Goals as goal

pub returns-in_err-head : goal.returns-in_err-head
returns-in_err-head c =
    let p = err_from_is_err_and c.from_residual.result c.from_residual.ensures.1 in
    rw (p.1, p.2) (short_of head_apart (λ h. there_bind there_items (λ i. there_return)) c.in_err-head.ensures)

pub returns-in_err-items : goal.returns-in_err-items
returns-in_err-items c =
    let p = err_from_is_err_and c.from_residual-in_err-items.result c.from_residual-in_err-items.ensures.1 in
    rw (p.1, p.2) (beyond_fails head_apart c.in_ok-head.ensures (fails_too returned c.in_err-items.ensures))

pub or_first-edition-requires : goal.or_first-edition-requires
or_first-edition-requires c = head_number _ _ c.in_ok-head.ensures.is

pub returns : goal.returns
returns c = rw c.or_first-edition.ensures (beyond_reads head_apart c.in_ok-head.ensures (returned_reads c.in_ok-items.ensures))
