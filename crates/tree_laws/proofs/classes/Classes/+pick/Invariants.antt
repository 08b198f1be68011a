use Rattle.std.proofs.Common.{◌+◌, ◌-◌, ◌*◌, length}
use Rattle.tree_laws.proofs.classes.Classes.+pick.Given as goal

abbrev pub decreases-tree : goal.decreases-tree
decreases-tree l = 2 * (length l.nodes.now - l.at)

abbrev pub decreases-operand : goal.decreases-operand
decreases-operand l = 2 * (length l.nodes.now - l.at) + 1
