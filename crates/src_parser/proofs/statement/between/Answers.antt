use Rattle.std.proofs.lemmas.Result.{err_from_is_err_and}
use Rattle.grammar.proofs.Steps.{return_reads}
use Rattle.grammar.proofs.Passing.{there_return, there_bind, beyond_reads, beyond_fails, short_of, on, past, stuck}
use Rattle.src_model.specs.Written.{model_of_src_expr}
use Rattle.src_parser.specs.Inner.Steps.{may_follow}
use Rattle.grammar.proofs.Tokens.{begun, ends, there_sign, there_before}
use Rattle.src_parser.proofs.Statements.{there_outer}
use Rattle.grammar.proofs.Kept.{kept_gives}
use Rattle.src_parser.proofs.statement.between.Goals as goal

pub returns-in_err-rest : goal.returns-in_err-rest
returns-in_err-rest c =
    let p = err_from_is_err_and c.from_residual.result c.from_residual.ensures.1 in
    rw (p.1, p.2) (stuck (λ u. there_before (there_outer c.args.levels)) c.in_err-rest.ensures)

pub returns-in_err-a : goal.returns-in_err-a
returns-in_err-a c =
    let p = err_from_is_err_and c.from_residual-in_err-a.result c.from_residual-in_err-a.ensures.1 in
    rw (p.1, p.2) (past c.in_ok-rest.ensures (short_of (ends (may_follow 6) (λ a. begun) c.requires) (λ a. there_bind there_sign (λ u. there_return)) c.in_err-a.ensures))

pub returns : goal.returns
returns c =
    kept_gives (λ rest. (tt, rest.now)) (λ x. (model_of_src_expr x.0, x.1.now))
    (λ rest r. on c.in_ok-rest.ensures (beyond_reads (ends (may_follow 6) (λ a. begun) c.requires) c.in_ok-a.ensures (on r return_reads)))
    (λ stop f. past c.in_ok-rest.ensures (beyond_fails (ends (may_follow 6) (λ a. begun) c.requires) c.in_ok-a.ensures (stuck (λ u. there_return) f)))
    c.expect-2.result c.expect-2.ensures c.keeping.result c.keeping.ensures.read c.keeping.ensures.stopped
