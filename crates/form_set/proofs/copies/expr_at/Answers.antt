use Rattle.std.proofs.Common.{◌-◌, ◌^◌, ◌≤◌, subst, sym, arith}
use Rattle.std.proofs.lemmas.Result.{IfOk-weaker}
use Rattle.sym_expr.specs.Pools.{expr_of_id}
use Rattle.operand_swaps.specs.Swaps.{levels}
use Rattle.form_set.proofs.Levels.{levels-at}
use Rattle.form_set.proofs.copies.expr_at.Goals as goal

pub returns-clause-levels : goal.returns-clause-levels
returns-clause-levels c =
    let few : levels (expr_of_id c.args.pool.now c.args.expr) ≤ 2 ^ 64 - 1 =
    omega (arith, levels-at c.args.pool.now c.args.expr (c.len-len.ensures.fits c.args.expr c.requires), c.len-len.ensures.len) in
    IfOk-weaker c.expr.result _ _ (λ copy is. subst (λ t. levels t ≤ 2 ^ 64 - 1) (sym is) few) c.expr.ensures
