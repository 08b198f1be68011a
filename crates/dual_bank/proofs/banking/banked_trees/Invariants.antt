use Rattle.std.proofs.Common.{◌≡◌, ◌++◌, drop, map}
use Rattle.form_model.specs.Trees.{model_of_tree}
use Rattle.dual_bank.specs.Banked.{banked_tree}
use Rattle.dual_bank.proofs.banking.banked_trees.Given as goal

-- the trees so far, with those of the trees left, are those of all
abbrev pub invariant-loop-tree : goal.invariant-loop-tree
invariant-loop-tree l =
    map model_of_tree l.made.items ++ map (banked_tree l.k) (map model_of_tree (drop l.tree-index l.trees))
    ≡ map (banked_tree l.k) (map model_of_tree l.trees)
