use Rattle.std.proofs.Common.{◌+◌, ◌*◌}
use Rattle.net_model.specs.Exprs.{size_of}
use Rattle.form_model.specs.Trees.{model_of_tree}
use Rattle.dual_bank.proofs.banking.+trees.Given as goal

-- parts have fewer nodes than their wholes

abbrev pub decreases-banked_tree : goal.decreases-banked_tree
decreases-banked_tree l = 2 * size_of (model_of_tree l.tree.now)

abbrev pub decreases-boxed : goal.decreases-boxed
decreases-boxed l = 2 * size_of (model_of_tree l.tree.now) + 1

abbrev pub decreases-banked_address : goal.decreases-banked_address
decreases-banked_address l = 2 * size_of (model_of_tree l.address.now) + 1
