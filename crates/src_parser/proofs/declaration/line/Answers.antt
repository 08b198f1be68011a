use Rattle.std.proofs.Common.{refl}
use Rattle.std.proofs.lemmas.Result.{err_from_is_err_and}
use Rattle.grammar.proofs.Steps.{return_reads}
use Rattle.grammar.proofs.Passing.{there_return, there_bind, there_many, beyond_reads, beyond_fails, short_of, on, stuck}
use Rattle.src_parser.specs.Inner.Steps.{decls_word}
use Rattle.grammar.proofs.Tokens.{begun, ends, there_sign, there_before}
use Rattle.src_parser.proofs.Declarations.{line_apart}
use Rattle.grammar.proofs.Kept.{kept_gives}
use Rattle.src_parser.proofs.declaration.line.Goals as goal

pub returns-in_err-first : goal.returns-in_err-first
returns-in_err-first c =
    let p = err_from_is_err_and c.from_residual.result c.from_residual.ensures.1 in
    rw (p.1, p.2) (short_of line_apart (λ a. there_before (there_bind there_many (λ vs. there_return))) c.in_err-first.ensures)

pub returns-in_err-vars : goal.returns-in_err-vars
returns-in_err-vars c =
    let p = err_from_is_err_and c.from_residual-in_err-vars.result c.from_residual-in_err-vars.ensures.1 in
    rw (p.1, p.2) (beyond_fails line_apart c.in_ok-first.ensures (short_of (ends decls_word (λ a. begun) refl) (λ vs. there_bind there_sign (λ u. there_return)) c.in_err-vars.ensures))

pub returns : goal.returns
returns c =
    kept_gives (λ rest. (tt, rest.now)) (λ x. (x.0.items, x.1.now))
    (λ rest r. beyond_reads line_apart c.in_ok-first.ensures (beyond_reads (ends decls_word (λ a. begun) refl) c.in_ok-vars.ensures (on r return_reads)))
    (λ stop f. beyond_fails line_apart c.in_ok-first.ensures (beyond_fails (ends decls_word (λ a. begun) refl) c.in_ok-vars.ensures (stuck (λ u. there_return) f)))
    c.expect.result c.expect.ensures c.keeping.result c.keeping.ensures.read c.keeping.ensures.stopped
