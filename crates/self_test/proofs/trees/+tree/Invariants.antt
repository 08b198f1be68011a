use Rattle.std.proofs.Common.{◌+◌, ◌*◌}
use Rattle.self_test.proofs.trees.+tree.Given as goal

-- parts come before their wholes

abbrev pub decreases-tree : goal.decreases-tree
decreases-tree l = 2 * l.expr

abbrev pub decreases-boxed : goal.decreases-boxed
decreases-boxed l = 2 * l.expr + 1
