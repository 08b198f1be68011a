use Rattle.std.proofs.Common.{◌+◌, ◌*◌}
use Rattle.net_model.specs.Exprs.{size_of, model_of_expr}
use Rattle.respell.proofs.costs.Costs.+fit.Given as goal

abbrev pub decreases-fit : goal.decreases-fit
decreases-fit l = 3 * size_of (model_of_expr l.e.now) + 2

abbrev pub decreases-read : goal.decreases-read
decreases-read l = 3 * size_of (model_of_expr l.addr.now) + 3

abbrev pub decreases-operator : goal.decreases-operator
decreases-operator l = 3 * size_of (model_of_expr l.e.now) + 1

abbrev pub decreases-at_node : goal.decreases-at_node
decreases-at_node l = 3 * size_of (model_of_expr l.e.now)
