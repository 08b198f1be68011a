use Rattle.std.proofs.Common.{refl}
use Rattle.std.proofs.lemmas.Result.{err_from_is_err_and}
use Rattle.grammar.proofs.Steps.{return_reads}
use Rattle.grammar.proofs.Passing.{there_return, there_bind, beyond_reads, beyond_fails, short_of, on, stuck}
use Rattle.grammar.proofs.Tokens.{there_sign, begun, ends}
use Rattle.net_parser.specs.Inner.Steps.{when_word}
use Rattle.net_model.specs.Written.{when_of}
use Rattle.grammar.proofs.Kept.{kept_gives}
use Rattle.net_parser.proofs.parts.when_end.Goals as goal

pub returns-in_err-when : goal.returns-in_err-when
returns-in_err-when c =
    let p = err_from_is_err_and c.from_residual.result c.from_residual.ensures.1 in
    rw (p.1, p.2) (short_of (ends when_word (λ a. begun) refl) (λ v. there_bind there_sign (λ u. there_return)) c.in_err-when.ensures)

pub returns : goal.returns
returns c =
    kept_gives (λ rest. (tt, rest.now)) (λ x. (when_of x.0, x.1.now))
    (λ rest r. beyond_reads (ends when_word (λ a. begun) refl) c.in_ok-when.ensures (on r return_reads))
    (λ stop f. beyond_fails (ends when_word (λ a. begun) refl) c.in_ok-when.ensures (stuck (λ u. there_return) f))
    c.expect.result c.expect.ensures c.keeping.result c.keeping.ensures.read c.keeping.ensures.stopped
