use Rattle.std.proofs.Common.{◌∙◌, arith}
use Rattle.net_model.specs.Exprs.{model_of_expr, expr_width}
use Rattle.branch_fix.proofs.Distances.{distance_told}
use Rattle.branch_fix.proofs.widen.distance.Goals as goal

pub returns : goal.returns
returns c =
    c.low_bits.ensures
    ∙ distance_told (expr_width (model_of_expr c.args.shape.now)) c.expr_width.result 18446744073709551615 c.args.from c.args.to (omega arith) (omega arith) c.expr_width.ensures
