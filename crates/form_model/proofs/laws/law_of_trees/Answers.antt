use Rattle.form_model.proofs.TreeLaws.{has_no_state, tree_is}
use Rattle.form_model.proofs.laws.law_of_trees.Goals as goal

pub returns-clause-tree : goal.returns-clause-tree
returns-clause-tree c = tree_is

pub returns-clause-state : goal.returns-clause-state
returns-clause-state c = has_no_state
