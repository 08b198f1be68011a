use Rattle.std.proofs.lemmas.Result.{err_from_is_err_and}
use Rattle.grammar.proofs.Passing.{fails_too, there_return, there_bind, there_maybe, beyond_reads, beyond_fails, short_of, returned, returned_reads}
use Rattle.net_parser.proofs.Leaves.{field_apart}
use Rattle.net_parser.proofs.leaf.named.Goals as goal

pub returns-in_err-field : goal.returns-in_err-field
returns-in_err-field c =
    let p = err_from_is_err_and c.from_residual.result c.from_residual.ensures.1 in
    rw (p.1, p.2) (short_of field_apart (λ f. there_bind there_maybe (λ b. there_return)) c.in_err-field.ensures)

pub returns-in_err-bits : goal.returns-in_err-bits
returns-in_err-bits c =
    let p = err_from_is_err_and c.from_residual-in_err-bits.result c.from_residual-in_err-bits.ensures.1 in
    rw (p.1, p.2) (beyond_fails field_apart c.in_ok-field.ensures (fails_too returned c.in_err-bits.ensures))

pub returns : goal.returns
returns c = rw (c.in_ok-name.ensures, c.as_slice.ensures) (beyond_reads field_apart c.in_ok-field.ensures (returned_reads c.in_ok-bits.ensures))
