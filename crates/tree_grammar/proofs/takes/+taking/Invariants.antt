use Rattle.std.proofs.Common.{◌+◌, ◌*◌}
use Rattle.net_model.specs.Exprs.{size_of, model_of_expr}
use Rattle.tree_grammar.proofs.takes.+taking.Given as goal

abbrev pub decreases-may_take : goal.decreases-may_take
decreases-may_take l = 2 * size_of (model_of_expr l.value.now)

abbrev pub decreases-may_take_one : goal.decreases-may_take_one
decreases-may_take_one l = 2 * size_of (model_of_expr l.a.now) + 1

abbrev pub decreases-may_take_two : goal.decreases-may_take_two
decreases-may_take_two l = 2 * size_of (model_of_expr l.a.now) + 2 * size_of (model_of_expr l.b.now) + 1
