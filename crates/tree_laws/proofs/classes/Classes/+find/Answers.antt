use Rattle.std.proofs.Common.{ap, sym, ◌∙◌}
use Rattle.std.specs.Prelude.{option_and_then}
use Rattle.sym_expr.specs.declared.pool.Node.TheVariants.{Bin, Read, Sext, Slice, Un, Zext}
use Rattle.tree_laws.specs.Classes.{class_of, found_in}
use Rattle.tree_laws.proofs.Found.{some_stands}
use Rattle.tree_laws.proofs.classes.Classes.+find.Goals as goal

pub find_tree-returns-clause-stands : goal.find_tree-returns-clause-stands
find_tree-returns-clause-stands t c = some_stands c.args.self.now c.args.tree.now c.find.result (c.find.ensures.listed ∙ c.in_ok-tree_node.ensures)

pub find_tree-returns-clause-class : goal.find_tree-returns-clause-class
find_tree-returns-clause-class t c = c.find.ensures.listed ∙ c.in_ok-tree_node.ensures

pub tree_node-returns-in-Lit : goal.tree_node-returns-in-Lit
tree_node-returns-in-Lit t c = sym (ap (class_of c.args.self.now) c.in-Lit.is)

pub tree_node-returns-in_ok-find_tree-in-Read : goal.tree_node-returns-in_ok-find_tree-in-Read
tree_node-returns-in_ok-find_tree-in-Read t c =
    let self = c.args.self.now in
    ap (option_and_then (λ x. found_in self (Read x c.in-Read.w))) (c.in_ok-find_tree-in-Read.ensures.class ∙ ap (class_of self) c.deref.ensures) ∙ sym (ap (class_of self) c.in-Read.is)

pub tree_node-returns-in_ok-find_tree-in-Un : goal.tree_node-returns-in_ok-find_tree-in-Un
tree_node-returns-in_ok-find_tree-in-Un t c =
    let self = c.args.self.now in
    ap (option_and_then (λ x. found_in self (Un c.in-Un.op x))) (c.in_ok-find_tree-in-Un.ensures.class ∙ ap (class_of self) c.deref-in-Un.ensures) ∙ sym (ap (class_of self) c.in-Un.is)

pub tree_node-returns-in_ok-find_tree-in-Slice : goal.tree_node-returns-in_ok-find_tree-in-Slice
tree_node-returns-in_ok-find_tree-in-Slice t c =
    let self = c.args.self.now in
    ap (option_and_then (λ x. found_in self (Slice x c.in-Slice.hi c.in-Slice.lo))) (c.in_ok-find_tree-in-Slice.ensures.class ∙ ap (class_of self) c.deref-in-Slice.ensures) ∙ sym (ap (class_of self) c.in-Slice.is)

pub tree_node-returns-in_ok-find_tree-in-Zext : goal.tree_node-returns-in_ok-find_tree-in-Zext
tree_node-returns-in_ok-find_tree-in-Zext t c =
    let self = c.args.self.now in
    ap (option_and_then (λ x. found_in self (Zext x c.in-Zext.w))) (c.in_ok-find_tree-in-Zext.ensures.class ∙ ap (class_of self) c.deref-in-Zext.ensures) ∙ sym (ap (class_of self) c.in-Zext.is)

pub tree_node-returns-in_ok-find_tree-in-Sext : goal.tree_node-returns-in_ok-find_tree-in-Sext
tree_node-returns-in_ok-find_tree-in-Sext t c =
    let self = c.args.self.now in
    ap (option_and_then (λ x. found_in self (Sext x c.in-Sext.w))) (c.in_ok-find_tree-in-Sext.ensures.class ∙ ap (class_of self) c.deref-in-Sext.ensures) ∙ sym (ap (class_of self) c.in-Sext.is)

pub tree_node-returns-in_ok-find_tree-in-Bin : goal.tree_node-returns-in_ok-find_tree-in-Bin
tree_node-returns-in_ok-find_tree-in-Bin t c =
    let self = c.args.self.now in
    ap (option_and_then (λ y. found_in self (Bin c.in-Bin.op c.in_ok-left-in-Bin.left y))) (c.in_ok-find_tree-in-Bin.ensures.class ∙ ap (class_of self) c.deref-in-Bin-2.ensures)
    ∙ ap (option_and_then (λ x. option_and_then (λ y. found_in self (Bin c.in-Bin.op x y)) (class_of self c.in-Bin.b.value))) (c.in_ok-left-in-Bin.ensures.class ∙ ap (class_of self) c.deref-in-Bin.ensures)
    ∙ sym (ap (class_of self) c.in-Bin.is)
