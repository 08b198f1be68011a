use Rattle.std.proofs.Common.{◌+◌, ◌*◌}
use Rattle.view_terms.specs.Terms.{model_of_term}
use Rattle.check_command.specs.Inner.Sizes.{term_size}
use Rattle.check_command.proofs.trees.Memory.+tree.Given as goal

-- parts are smaller than their wholes
abbrev pub decreases-tree : goal.decreases-tree
decreases-tree l = 2 * term_size (model_of_term l.term.now)

abbrev pub decreases-pair : goal.decreases-pair
decreases-pair l = 2 * (term_size (model_of_term l.first.now) + term_size (model_of_term l.second.now)) + 1
