use Rattle.std.proofs.Common.{map, refl}
use Rattle.std.proofs.lemmas.Result.{err_from_is_err_and}
use Rattle.grammar.proofs.Steps.{return_reads}
use Rattle.grammar.proofs.Passing.{there_return, there_bind, beyond_reads, beyond_fails, short_of, on, past, stuck}
use Rattle.grammar.proofs.Tokens.{there_sign, there_before, begun, ends}
use Rattle.net_parser.specs.Inner.Steps.{first_word}
use Rattle.net_model.specs.Written.{driver_of}
use Rattle.net_parser.proofs.ItemParts.{there_drivers}
use Rattle.grammar.proofs.Kept.{kept_gives}
use Rattle.net_parser.proofs.parts.braced_drivers.Goals as goal

pub returns-in_err-rest : goal.returns-in_err-rest
returns-in_err-rest c =
    let p = err_from_is_err_and c.from_residual.result c.from_residual.ensures.1 in
    rw (p.1, p.2) (stuck (λ u. there_before there_drivers) c.in_err-rest.ensures)

pub returns-in_err-drivers : goal.returns-in_err-drivers
returns-in_err-drivers c =
    let p = err_from_is_err_and c.from_residual-in_err-drivers.result c.from_residual-in_err-drivers.ensures.1 in
    rw (p.1, p.2) (past c.in_ok-rest.ensures (short_of (ends first_word (λ a. begun) refl) (λ v. there_bind there_sign (λ u. there_return)) c.in_err-drivers.ensures))

pub returns : goal.returns
returns c =
    kept_gives (λ rest. (tt, rest.now)) (λ x. (map driver_of x.0, x.1.now))
    (λ rest r. on c.in_ok-rest.ensures (beyond_reads (ends first_word (λ a. begun) refl) c.in_ok-drivers.ensures (on r return_reads)))
    (λ stop f. past c.in_ok-rest.ensures (beyond_fails (ends first_word (λ a. begun) refl) c.in_ok-drivers.ensures (stuck (λ u. there_return) f)))
    c.expect-2.result c.expect-2.ensures c.keeping.result c.keeping.ensures.read c.keeping.ensures.stopped
