use Rattle.std.proofs.Common.{◌+◌, ◌*◌}
use Rattle.net_model.specs.Exprs.{size_of}
use Rattle.form_model.specs.Trees.{model_of_tree}
use Rattle.tree_sharing.specs.Inner.Sharing.{operand_expr, operand_size}
use Rattle.tree_sharing.proofs.listing.+listing.Given as goal

abbrev pub decreases-list : goal.decreases-list
decreases-list l = 2 * size_of (model_of_tree l.tree.now) + 1

abbrev pub decreases-list_operand : goal.decreases-list_operand
decreases-list_operand l = 2 * operand_size (operand_expr l.operand) + 2
