use Rattle.std.proofs.Common.{drop}
use Rattle.tree_sharing.specs.Sharing.{exprs_at}
use Rattle.explain_command.specs.Explained.{AreLackLines}
use Rattle.explain_command.specs.Inner.Telling.{Begins, netlist_of}
use Rattle.explain_command.proofs.covering.add_trees.Given as goal

abbrev pub invariant-loop-tree : goal.invariant-loop-tree
invariant-loop-tree l =
    Begins (AreLackLines (netlist_of l.subject) (exprs_at (drop l.tree-index l.trees)))
    (AreLackLines (netlist_of l.subject) (exprs_at l.trees)) l.initial.text.items l.text.items
