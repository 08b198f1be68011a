use Rattle.std.proofs.Common.{refl}
use Rattle.std.proofs.lemmas.Result.{err_from_is_err_and}
use Rattle.grammar.proofs.Steps.{return_reads}
use Rattle.grammar.proofs.Passing.{fails_too, there_return, there_bind, beyond_reads, beyond_fails, short_of, on, stuck, starts_inner, returned, returned_reads}
use Rattle.src_parser.specs.Inner.Steps.{may_follow}
use Rattle.grammar.proofs.Tokens.{begun, ends, there_behind, there_before}
use Rattle.src_parser.proofs.Statements.{there_outer, place_Spot}
use Rattle.src_parser.proofs.statement.assignment.Goals as goal

pub returns-in_err-index : goal.returns-in_err-index
returns-in_err-index c =
    let p = err_from_is_err_and c.from_residual.result c.from_residual.ensures.1 in
    rw (p.1, p.2) (short_of (ends (may_follow 0) (λ a. starts_inner begun) refl) (λ p. there_bind (there_behind (there_before (there_outer c.args.levels))) (λ v. there_return)) (fails_too returned c.in_err-index.ensures))

pub returns-in_err-value : goal.returns-in_err-value
returns-in_err-value c =
    let p = err_from_is_err_and c.from_residual-in_err-value.result c.from_residual-in_err-value.ensures.1 in
    rw (p.1, p.2) (beyond_fails (ends (may_follow 0) (λ a. starts_inner begun) refl) (returned_reads c.in_ok-index.ensures) (stuck (λ v. there_return) c.in_err-value.ensures))

pub returns : goal.returns
returns c = rw (place_Spot c.in_ok-name.name c.args.at c.in_ok-index.index, c.in_ok-name.ensures, c.as_slice.ensures) (beyond_reads (ends (may_follow 0) (λ a. starts_inner begun) refl) (returned_reads c.in_ok-index.ensures) (on c.in_ok-value.ensures return_reads))
