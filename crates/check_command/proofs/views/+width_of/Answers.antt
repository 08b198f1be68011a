use Rattle.net_model.specs.Exprs.{expr_width, model_of_expr}
use Rattle.check_command.proofs.views.+width_of.Goals as goal

pub returns-in-Bin : goal.returns-in-Bin
returns-in-Bin t c = rw c.in-Bin.is (c.operator_width.ensures (expr_width (model_of_expr c.in-Bin.a.value)) (rw c.deref.ensures at c.width_of.ensures))
