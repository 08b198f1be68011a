use Rattle.std.proofs.Common.{◌+◌, ◌*◌}
use Rattle.net_model.specs.Exprs.{size_of}
use Rattle.form_model.specs.Trees.{model_of_tree}
use Rattle.tree_sharing.specs.Inner.Sharing.{operand_expr, operand_size}
use Rattle.tree_sharing.proofs.sharing.+sharing.Given as goal

abbrev pub decreases-share : goal.decreases-share
decreases-share l = 2 * size_of (model_of_tree l.tree.now) + 1

abbrev pub decreases-share_operand : goal.decreases-share_operand
decreases-share_operand l = 2 * operand_size (operand_expr l.operand) + 2
