use Rattle.std.proofs.Common.{◌≡◌, ◌+◌, ◌∷◌, ◌++◌, List, [], drop, ap, sym, subst, refl, ◌∙◌, append_assoc, arith}
use Rattle.std.specs.Borrow.{Bor}
use Rattle.std.proofs.lemmas.List.{drop_all}
use Rattle.rec_bits.proofs.Faults.{drop_item}
use Rattle.form_model.specs.Trees.{model_of_tree}
use Rattle.form_model.specs.declared.trees.Tree.{Tree}
use Rattle.tree_sharing.specs.Sharing.{exprs_at}
use Rattle.explain_command.specs.Explained.{AreLackLines}
use Rattle.explain_command.specs.Inner.Telling.{netlist_of}
use Rattle.explain_command.specs.Lines.{lack_line}
use Rattle.explain_command.proofs.Growing.{begins_end, begins_none, begins_on, lacks_more}
use Rattle.explain_command.proofs.covering.add_trees.Goals as goal

pub loop-tree-init : goal.loop-tree-init
loop-tree-init c = begins_none c.args.text.now.items (AreLackLines (netlist_of c.args.subject.now) (exprs_at c.args.trees.now))

pub loop-tree-preserved : goal.loop-tree-preserved
loop-tree-preserved c =
    let netlist = netlist_of c.args.subject.now in
    let trees = c.args.trees.now in
    let i = c.loop-tree.tree-index in
    let tree = c.tree-item.result in
    let is : drop i trees ≡ tree ∷ drop (i + 1) trees = drop_item trees i tree (omega arith) c.tree-item.is in
    let near = c.in_ok-add_near_lines.ensures in
    let line = lack_line netlist (model_of_tree tree.now) in
    begins_on c.args.text.now.items c.loop-tree.text.items (AreLackLines netlist (exprs_at (drop i trees))) (AreLackLines netlist (exprs_at trees))
    (AreLackLines netlist (exprs_at (drop (i + 1) trees))) (line ++ near.more) c.add_near_lines.new.text.items
    (λ later told. subst (λ (l : List (Bor Tree)). AreLackLines netlist (exprs_at l) ((line ++ near.more) ++ later)) (sym is)
    (lacks_more netlist (model_of_tree tree.now) (exprs_at (drop (i + 1) trees)) near.more later near.is told))
    (near.text ∙ ap (λ l. l ++ near.more) c.in_ok-add_tree_line.ensures ∙ append_assoc c.loop-tree.text.items line near.more)
    c.loop-tree.invariant

pub returns : goal.returns
returns c =
    let netlist = netlist_of c.args.subject.now in
    let trees = c.args.trees.now in
    let none : drop c.loop-tree.tree-index trees ≡ [] = drop_all c.loop-tree.tree-index trees (omega arith) in
    begins_end c.args.text.now.items c.loop-tree.text.items (AreLackLines netlist (exprs_at (drop c.loop-tree.tree-index trees))) (AreLackLines netlist (exprs_at trees))
    (subst (λ (l : List (Bor Tree)). AreLackLines netlist (exprs_at l) []) (sym none) refl) c.loop-tree.invariant
