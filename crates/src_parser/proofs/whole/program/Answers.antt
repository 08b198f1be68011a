use Rattle.std.proofs.lemmas.Result.{err_from_is_err_and}
use Rattle.grammar.proofs.Passing.{fails_too, reads_too, there_return, there_bind, there_many, beyond_reads, beyond_fails, short_of, returned, returned_reads}
use Rattle.src_parser.proofs.Declarations.{body_leads, text_apart}
use Rattle.src_parser.proofs.whole.program.Goals as goal

pub returns-in_err-vars : goal.returns-in_err-vars
returns-in_err-vars c =
    let p = err_from_is_err_and c.from_residual.result c.from_residual.ensures.1 in
    rw (p.1, p.2) (short_of text_apart (λ vs. there_bind there_many (λ b. there_return)) c.in_err-vars.ensures)

pub returns-in_err-body : goal.returns-in_err-body
returns-in_err-body c =
    let p = err_from_is_err_and c.from_residual-in_err-body.result c.from_residual-in_err-body.ensures.1 in
    rw (p.1, p.2) (beyond_fails text_apart c.in_ok-vars.ensures (fails_too returned (fails_too (body_leads 64) c.in_err-body.ensures)))

pub returns : goal.returns
returns c = rw c.from_vec-vars.ensures (beyond_reads text_apart c.in_ok-vars.ensures (returned_reads (reads_too (body_leads 64) c.in_ok-body.ensures)))
