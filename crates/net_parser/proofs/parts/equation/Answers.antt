use Rattle.std.proofs.Common.{refl}
use Rattle.std.proofs.lemmas.Result.{err_from_is_err_and}
use Rattle.grammar.proofs.Steps.{return_reads}
use Rattle.grammar.proofs.Passing.{there_return, there_bind, beyond_reads, beyond_fails, short_of, on, stuck}
use Rattle.grammar.proofs.Tokens.{there_sign, begun, ends}
use Rattle.net_parser.specs.Inner.Steps.{expr_word}
use Rattle.net_model.specs.Written.{binding_of}
use Rattle.grammar.proofs.Kept.{kept_gives}
use Rattle.net_parser.proofs.parts.equation.Goals as goal

pub returns-in_err-equation : goal.returns-in_err-equation
returns-in_err-equation c =
    let p = err_from_is_err_and c.from_residual.result c.from_residual.ensures.1 in
    rw (p.1, p.2) (short_of (ends expr_word (λ a. begun) refl) (λ v. there_bind there_sign (λ u. there_return)) c.in_err-equation.ensures)

pub returns : goal.returns
returns c =
    kept_gives (λ rest. (tt, rest.now)) (λ x. (binding_of x.0, x.1.now))
    (λ rest r. beyond_reads (ends expr_word (λ a. begun) refl) c.in_ok-equation.ensures (on r return_reads))
    (λ stop f. beyond_fails (ends expr_word (λ a. begun) refl) c.in_ok-equation.ensures (stuck (λ u. there_return) f))
    c.expect.result c.expect.ensures c.keeping.result c.keeping.ensures.read c.keeping.ensures.stopped
