use Rattle.std.proofs.lemmas.Result.{err_from_is_err_and}
use Rattle.grammar.proofs.Passing.{fails_too, there_return, there_bind, beyond_reads, beyond_fails, short_of, on, past, stuck, returned, returned_reads}
use Rattle.src_model.specs.Written.{model_of_src_expr}
use Rattle.grammar.proofs.Kept.{kept_reads, kept_fails}
use Rattle.src_parser.proofs.Statements.{there_outer, there_cmp, cmp_apart}
use Rattle.src_parser.proofs.statement.test.Goals as goal

pub returns-in_err-left : goal.returns-in_err-left
returns-in_err-left c =
    let p = err_from_is_err_and c.from_residual.result c.from_residual.ensures.1 in
    rw (p.1, p.2) (short_of cmp_apart (λ l. there_bind there_cmp (λ m. there_bind (there_outer c.args.levels) (λ r. there_return))) c.in_err-left.ensures)

pub returns-in_err-left-2 : goal.returns-in_err-left-2
returns-in_err-left-2 c =
    let p = err_from_is_err_and c.from_residual-in_err-left-2.result c.from_residual-in_err-left-2.ensures.1 in
    rw (p.1, p.2) (beyond_fails cmp_apart c.in_ok-left.ensures (stuck (λ m. there_bind (there_outer c.args.levels) (λ r. there_return)) (kept_fails (λ x. (x.0, x.1.now)) c.cmp.ensures c.in_err-left-2.ensures.stopped)))

pub returns-in_err-left-3 : goal.returns-in_err-left-3
returns-in_err-left-3 c =
    let p = err_from_is_err_and c.from_residual-in_err-left-3.result c.from_residual-in_err-left-3.ensures.1 in
    let cmp = kept_reads (λ x. (x.0, x.1.now)) c.cmp.ensures c.in_ok-left-2.ensures.read.1 in
    rw (p.1, p.2) (beyond_fails cmp_apart c.in_ok-left.ensures (past cmp (fails_too returned (kept_fails (λ x. (model_of_src_expr x.0, x.1.now)) c.expr-2.ensures c.in_err-left-3.ensures.stopped))))

pub returns : goal.returns
returns c =
    let cmp = kept_reads (λ x. (x.0, x.1.now)) c.cmp.ensures c.in_ok-left-2.ensures.read.1 in
    let right = kept_reads (λ x. (model_of_src_expr x.0, x.1.now)) c.expr-2.ensures c.in_ok-left-3.ensures.read.1 in
    rw (c.in_ok-left-3.ensures.read.0, c.in_ok-left-2.ensures.read.0) (beyond_reads cmp_apart c.in_ok-left.ensures (on cmp (returned_reads right)))
