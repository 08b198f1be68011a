use Rattle.std.proofs.Common.{◌≡◌, ◌+◌, ◌∷◌, ◌++◌, drop, map, refl, arith}
use Rattle.rec_bits.proofs.Faults.{drop_item}
use Rattle.form_model.specs.Trees.{model_of_tree}
use Rattle.explain_command.specs.Lines.{lines_of, tree_line}
use Rattle.explain_command.proofs.Growing.{tree_next}
use Rattle.explain_command.proofs.heading.add_trees.Goals as goal

pub loop-tree-preserved : goal.loop-tree-preserved
loop-tree-preserved c =
    let netlist = c.args.checked.now.netlist in
    let trees = c.args.trees.now in
    let i = c.loop-tree.tree-index in
    let tree = c.tree-item.result in
    let is : drop i trees ≡ tree ∷ drop (i + 1) trees = drop_item trees i tree (omega arith) c.tree-item.is in
    let word = c.args.word.now in
    tree_next netlist word (drop i trees) (drop (i + 1) trees) tree c.loop-tree.text.items c.add_tree_line.new.text.items
    (c.args.text.now.items ++ lines_of netlist word (map model_of_tree trees)) (tree_line netlist word (model_of_tree tree)) is c.in_ok-add_tree_line.ensures refl
    c.loop-tree.invariant
