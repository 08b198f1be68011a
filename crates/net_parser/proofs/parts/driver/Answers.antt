use Rattle.std.proofs.Common.{refl}
use Rattle.std.proofs.lemmas.Result.{err_from_is_err_and}
use Rattle.grammar.proofs.Steps.{return_reads}
use Rattle.grammar.proofs.Passing.{there_return, there_bind, beyond_reads, beyond_fails, short_of, on, stuck, starts_inner}
use Rattle.grammar.proofs.Tokens.{there_behind, there_before, begun, ends}
use Rattle.net_parser.specs.Inner.Steps.{expr_word}
use Rattle.net_model.specs.Written.{model_of_net_expr}
use Rattle.net_parser.proofs.Expressions.{there_expr}
use Rattle.grammar.proofs.Kept.{kept_reads, kept_fails}
use Rattle.net_parser.proofs.parts.driver.Goals as goal

pub returns-in_err-value : goal.returns-in_err-value
returns-in_err-value c =
    let p = err_from_is_err_and c.from_residual.result c.from_residual.ensures.1 in
    rw (p.1, p.2) (short_of (ends expr_word (λ a. starts_inner (starts_inner begun)) refl) (λ v. there_bind (there_before (there_behind (there_expr 64))) (λ e. there_return)) c.in_err-value.ensures)

pub returns-in_err-value-2 : goal.returns-in_err-value-2
returns-in_err-value-2 c =
    let p = err_from_is_err_and c.from_residual-in_err-value-2.result c.from_residual-in_err-value-2.ensures.1 in
    rw (p.1, p.2) (beyond_fails (ends expr_word (λ a. starts_inner (starts_inner begun)) refl) c.in_ok-value.ensures (stuck (λ e. there_return) (kept_fails (λ x. (model_of_net_expr x.0, x.1.now)) c.enclosed.ensures c.in_err-value-2.ensures.stopped)))

pub returns : goal.returns
returns c =
    let enable = kept_reads (λ x. (model_of_net_expr x.0, x.1.now)) c.enclosed.ensures c.in_ok-value-2.ensures.read.1 in
    rw c.in_ok-value-2.ensures.read.0 (beyond_reads (ends expr_word (λ a. starts_inner (starts_inner begun)) refl) c.in_ok-value.ensures (on enable return_reads))
