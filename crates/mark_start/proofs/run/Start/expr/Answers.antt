use Rattle.sym_expr.specs.Pools.{expr_of_id}
use Rattle.class_values.proofs.Made.{if_found}
use Rattle.mark_start.proofs.Reading.{expr_of}
use Rattle.mark_start.proofs.run.Start.expr.Goals as goal

pub returns-clause-is : goal.returns-clause-is
returns-clause-is c =
    if_found c.eval.result _ _ (λ k is. expr_of c.args.table.now c.eval.new.table c.args.run.now c.as_slice.result.now (expr_of_id c.args.self.now.pool.now c.args.id) k c.as_slice.ensures is) c.eval.ensures.is
