use Rattle.std.proofs.Common.{◌<◌, ap, arith}
use Rattle.form_model.specs.Forms.{model_of_goal}
use Rattle.least_costs.proofs.rows.goal_of.Goals as goal

pub overflow_cast-result : goal.overflow_cast-result
overflow_cast-result c = let low : c.in-Reg.id < 16 = c.requires c.in-Reg.id (ap model_of_goal c.in-Reg.is) in omega (arith, low)

pub returns-in-Reg-clause-slot : goal.returns-in-Reg-clause-slot
returns-in-Reg-clause-slot c = c.requires c.in-Reg.id (ap model_of_goal c.in-Reg.is)
