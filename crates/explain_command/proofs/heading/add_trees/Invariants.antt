use Rattle.std.proofs.Common.{◌≡◌, ◌++◌, drop, map}
use Rattle.form_model.specs.Trees.{model_of_tree}
use Rattle.explain_command.specs.Lines.{lines_of}
use Rattle.explain_command.proofs.heading.add_trees.Given as goal

abbrev pub invariant-loop-tree : goal.invariant-loop-tree
invariant-loop-tree l =
    l.text.items ++ lines_of l.checked.netlist l.word (map model_of_tree (drop l.tree-index l.trees))
    ≡ l.initial.text.items ++ lines_of l.checked.netlist l.word (map model_of_tree l.trees)
