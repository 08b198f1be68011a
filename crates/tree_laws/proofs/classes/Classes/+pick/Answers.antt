use Rattle.std.proofs.Common.{refl, subst, sym}
use Rattle.form_model.specs.Trees.{model_of_tree}
use Rattle.sym_expr.specs.declared.pool.Node.TheVariants.{Bin, Const, Read, Sext, Slice, Un, Zext}
use Rattle.tree_laws.specs.Classes.{NodeStands, Stands}
use Rattle.tree_laws.specs.Inner.Reading.{IsRead, IsRoot}
use Rattle.tree_laws.proofs.Found.{leaf_read, one_read, two_read}
use Rattle.tree_laws.proofs.Standing.{bin_node, read_node, sext_node, slice_node, un_node, zext_node}
use Rattle.tree_laws.proofs.classes.Classes.+pick.Goals as goal

pub operand-returns-clause-stands : goal.operand-returns-clause-stands
operand-returns-clause-stands t c = subst (λ x. Stands c.args.self.now (model_of_tree x) c.args.class) (sym c.in_ok-new.ensures.ok) c.in_ok-picked.ensures.stands

pub tree-returns-in-Const-clause-stands : goal.tree-returns-in-Const-clause-stands
tree-returns-in-Const-clause-stands t c = subst (λ n. NodeStands c.args.self.now n c.args.class) c.in-Const.is c.in_ok-width.ensures.stands

pub tree-returns-in_ok-of-in-Read-clause-stands : goal.tree-returns-in_ok-of-in-Read-clause-stands
tree-returns-in_ok-of-in-Read-clause-stands t c =
    read_node c.args.self.now (model_of_tree c.in_ok-of-in-Read.of.tree.value) c.in-Read.a c.in-Read.w c.in_ok-of-in-Read.ensures.stands c.args.class
    (subst (λ n. NodeStands c.args.self.now n c.args.class) c.in-Read.is c.in_ok-width.ensures.stands)

pub tree-returns-in_ok-of-in-Un-clause-stands : goal.tree-returns-in_ok-of-in-Un-clause-stands
tree-returns-in_ok-of-in-Un-clause-stands t c =
    un_node c.args.self.now c.in-Un.op (model_of_tree c.in_ok-of-in-Un.of.tree.value) c.in-Un.a c.in_ok-of-in-Un.ensures.stands c.args.class
    (subst (λ n. NodeStands c.args.self.now n c.args.class) c.in-Un.is c.in_ok-width.ensures.stands)

pub tree-returns-in_ok-right-in-Bin-clause-stands : goal.tree-returns-in_ok-right-in-Bin-clause-stands
tree-returns-in_ok-right-in-Bin-clause-stands t c =
    bin_node c.args.self.now c.in-Bin.op (model_of_tree c.in_ok-left-in-Bin.left.tree.value) (model_of_tree c.in_ok-right-in-Bin.right.tree.value) c.in-Bin.a c.in-Bin.b
    c.in_ok-left-in-Bin.ensures.stands c.in_ok-right-in-Bin.ensures.stands c.args.class
    (subst (λ n. NodeStands c.args.self.now n c.args.class) c.in-Bin.is c.in_ok-width.ensures.stands)

pub tree-returns-in_ok-of-in-Slice-clause-stands : goal.tree-returns-in_ok-of-in-Slice-clause-stands
tree-returns-in_ok-of-in-Slice-clause-stands t c =
    slice_node c.args.self.now (model_of_tree c.in_ok-of-in-Slice.of.tree.value) c.in-Slice.a c.in-Slice.hi c.in-Slice.lo c.in_ok-of-in-Slice.ensures.stands c.args.class
    (subst (λ n. NodeStands c.args.self.now n c.args.class) c.in-Slice.is c.in_ok-width.ensures.stands)

pub tree-returns-in_ok-of-in-Zext-clause-stands : goal.tree-returns-in_ok-of-in-Zext-clause-stands
tree-returns-in_ok-of-in-Zext-clause-stands t c =
    zext_node c.args.self.now (model_of_tree c.in_ok-of-in-Zext.of.tree.value) c.in-Zext.a c.in-Zext.w c.in_ok-of-in-Zext.ensures.stands c.args.class
    (subst (λ n. NodeStands c.args.self.now n c.args.class) c.in-Zext.is c.in_ok-width.ensures.stands)

pub tree-returns-in_ok-of-in-Sext-clause-stands : goal.tree-returns-in_ok-of-in-Sext-clause-stands
tree-returns-in_ok-of-in-Sext-clause-stands t c =
    sext_node c.args.self.now (model_of_tree c.in_ok-of-in-Sext.of.tree.value) c.in-Sext.a c.in-Sext.w c.in_ok-of-in-Sext.ensures.stands c.args.class
    (subst (λ n. NodeStands c.args.self.now n c.args.class) c.in-Sext.is c.in_ok-width.ensures.stands)

pub operand-returns-clause-read : goal.operand-returns-clause-read
operand-returns-clause-read t c =
    subst (IsRead c.args.self.now c.args.nodes.now c.args.class c.args.at c.in_ok-picked.picked.next) (sym c.in_ok-new.ensures.ok) c.in_ok-picked.ensures.read

pub tree-returns-in-Const-clause-read : goal.tree-returns-in-Const-clause-read
tree-returns-in-Const-clause-read t c =
    leaf_read c.args.self.now c.args.nodes.now c.args.class c.args.at (Const c.in-Const.width c.in-Const.value)
    (subst (IsRoot c.args.self.now c.args.nodes.now c.args.class c.args.at) c.in-Const.is c.in_ok-width.ensures.root) _ refl refl

pub tree-returns-in_ok-of-in-Read-clause-read : goal.tree-returns-in_ok-of-in-Read-clause-read
tree-returns-in_ok-of-in-Read-clause-read t c =
    one_read c.args.self.now c.args.nodes.now c.args.class c.args.at (Read c.in-Read.a c.in-Read.w)
    (subst (IsRoot c.args.self.now c.args.nodes.now c.args.class c.args.at) c.in-Read.is c.in_ok-width.ensures.root)
    c.in-Read.a c.in_ok-of-in-Read.of.next c.in_ok-of-in-Read.of.tree.value _ refl refl c.in_ok-of-in-Read.ensures.read

pub tree-returns-in_ok-of-in-Un-clause-read : goal.tree-returns-in_ok-of-in-Un-clause-read
tree-returns-in_ok-of-in-Un-clause-read t c =
    one_read c.args.self.now c.args.nodes.now c.args.class c.args.at (Un c.in-Un.op c.in-Un.a)
    (subst (IsRoot c.args.self.now c.args.nodes.now c.args.class c.args.at) c.in-Un.is c.in_ok-width.ensures.root)
    c.in-Un.a c.in_ok-of-in-Un.of.next c.in_ok-of-in-Un.of.tree.value _ refl refl c.in_ok-of-in-Un.ensures.read

pub tree-returns-in_ok-of-in-Slice-clause-read : goal.tree-returns-in_ok-of-in-Slice-clause-read
tree-returns-in_ok-of-in-Slice-clause-read t c =
    one_read c.args.self.now c.args.nodes.now c.args.class c.args.at (Slice c.in-Slice.a c.in-Slice.hi c.in-Slice.lo)
    (subst (IsRoot c.args.self.now c.args.nodes.now c.args.class c.args.at) c.in-Slice.is c.in_ok-width.ensures.root)
    c.in-Slice.a c.in_ok-of-in-Slice.of.next c.in_ok-of-in-Slice.of.tree.value _ refl refl c.in_ok-of-in-Slice.ensures.read

pub tree-returns-in_ok-of-in-Zext-clause-read : goal.tree-returns-in_ok-of-in-Zext-clause-read
tree-returns-in_ok-of-in-Zext-clause-read t c =
    one_read c.args.self.now c.args.nodes.now c.args.class c.args.at (Zext c.in-Zext.a c.in-Zext.w)
    (subst (IsRoot c.args.self.now c.args.nodes.now c.args.class c.args.at) c.in-Zext.is c.in_ok-width.ensures.root)
    c.in-Zext.a c.in_ok-of-in-Zext.of.next c.in_ok-of-in-Zext.of.tree.value _ refl refl c.in_ok-of-in-Zext.ensures.read

pub tree-returns-in_ok-of-in-Sext-clause-read : goal.tree-returns-in_ok-of-in-Sext-clause-read
tree-returns-in_ok-of-in-Sext-clause-read t c =
    one_read c.args.self.now c.args.nodes.now c.args.class c.args.at (Sext c.in-Sext.a c.in-Sext.w)
    (subst (IsRoot c.args.self.now c.args.nodes.now c.args.class c.args.at) c.in-Sext.is c.in_ok-width.ensures.root)
    c.in-Sext.a c.in_ok-of-in-Sext.of.next c.in_ok-of-in-Sext.of.tree.value _ refl refl c.in_ok-of-in-Sext.ensures.read

pub tree-returns-in_ok-right-in-Bin-clause-read : goal.tree-returns-in_ok-right-in-Bin-clause-read
tree-returns-in_ok-right-in-Bin-clause-read t c =
    two_read c.args.self.now c.args.nodes.now c.args.class c.args.at (Bin c.in-Bin.op c.in-Bin.a c.in-Bin.b)
    (subst (IsRoot c.args.self.now c.args.nodes.now c.args.class c.args.at) c.in-Bin.is c.in_ok-width.ensures.root)
    c.in-Bin.a c.in-Bin.b c.in_ok-left-in-Bin.left.next c.in_ok-right-in-Bin.right.next c.in_ok-left-in-Bin.left.tree.value c.in_ok-right-in-Bin.right.tree.value _ refl refl
    c.in_ok-left-in-Bin.ensures.read c.in_ok-right-in-Bin.ensures.read
