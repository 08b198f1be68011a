use Rattle.std.proofs.Common.{◌≡◌, Some, ap, sym, subst, ◌∙◌}
use Rattle.std.specs.Prelude.{IfSome}
use Rattle.sym_expr.specs.declared.pool.Node.TheVariants.{Bin, Read, Sext, Slice, Un, Zext}
use Rattle.tree_laws.specs.Classes.{class_of}
use Rattle.tree_laws.specs.Inner.Reading.{IsRootOf}
use Rattle.tree_laws.proofs.Grown.{bin_root, class_kept, read_root, root_stands, sext_root, slice_root, un_root, zext_root}
use Rattle.tree_laws.proofs.classes.Classes.+list.Goals as goal

pub list_operands-returns-in-Some-clause-root : goal.list_operands-returns-in-Some-clause-root
list_operands-returns-in-Some-clause-root t c =
    let new = c.add_tree.new.self in
    subst (λ k. IsRootOf new k (Read c.in-Some.of c.in-Read.w)) (sym c.in-Read.is)
    (read_root new c.in-Read.a c.in-Some.of (sym (ap (class_of new) c.deref.ensures)
    ∙ subst (λ o. IfSome o (λ k. class_of new c.deref.result.now ≡ Some k)) c.in-Some.is c.in_ok-of-in-Read.ensures.class) c.in-Read.w)

pub list_operands-returns-in-Some-2-clause-root : goal.list_operands-returns-in-Some-2-clause-root
list_operands-returns-in-Some-2-clause-root t c =
    let new = c.add_tree-in-Un.new.self in
    subst (λ k. IsRootOf new k (Un c.in-Un.op c.in-Some-2.of)) (sym c.in-Un.is)
    (un_root new c.in-Un.a c.in-Some-2.of (sym (ap (class_of new) c.deref-in-Un.ensures)
    ∙ subst (λ o. IfSome o (λ k. class_of new c.deref-in-Un.result.now ≡ Some k)) c.in-Some-2.is c.in_ok-of-in-Un.ensures.class) c.in-Un.op)

pub list_operands-returns-in-Some-4-clause-root : goal.list_operands-returns-in-Some-4-clause-root
list_operands-returns-in-Some-4-clause-root t c =
    let mid = c.add_tree-in-Bin.new.self in
    let new = c.add_tree-in-Bin-2.new.self in
    subst (λ k. IsRootOf new k (Bin c.in-Bin.op c.in-Some-3.left c.in-Some-4.right)) (sym c.in-Bin.is)
    (bin_root new c.in-Bin.a c.in-Some-3.left (class_kept mid new c.in_ok-right-in-Bin.ensures.grows c.in-Bin.a.value c.in-Some-3.left (sym (ap (class_of mid) c.deref-in-Bin.ensures)
    ∙ subst (λ o. IfSome o (λ k. class_of mid c.deref-in-Bin.result.now ≡ Some k)) c.in-Some-3.is c.in_ok-left-in-Bin.ensures.class))
    c.in-Bin.b c.in-Some-4.right (sym (ap (class_of new) c.deref-in-Bin-2.ensures)
    ∙ subst (λ o. IfSome o (λ k. class_of new c.deref-in-Bin-2.result.now ≡ Some k)) c.in-Some-4.is c.in_ok-right-in-Bin.ensures.class) c.in-Bin.op)

pub list_operands-returns-in-Some-5-clause-root : goal.list_operands-returns-in-Some-5-clause-root
list_operands-returns-in-Some-5-clause-root t c =
    let new = c.add_tree-in-Slice.new.self in
    subst (λ k. IsRootOf new k (Slice c.in-Some-5.of c.in-Slice.hi c.in-Slice.lo)) (sym c.in-Slice.is)
    (slice_root new c.in-Slice.a c.in-Some-5.of (sym (ap (class_of new) c.deref-in-Slice.ensures)
    ∙ subst (λ o. IfSome o (λ k. class_of new c.deref-in-Slice.result.now ≡ Some k)) c.in-Some-5.is c.in_ok-of-in-Slice.ensures.class) c.in-Slice.hi c.in-Slice.lo)

pub list_operands-returns-in-Some-6-clause-root : goal.list_operands-returns-in-Some-6-clause-root
list_operands-returns-in-Some-6-clause-root t c =
    let new = c.add_tree-in-Zext.new.self in
    subst (λ k. IsRootOf new k (Zext c.in-Some-6.of c.in-Zext.w)) (sym c.in-Zext.is)
    (zext_root new c.in-Zext.a c.in-Some-6.of (sym (ap (class_of new) c.deref-in-Zext.ensures)
    ∙ subst (λ o. IfSome o (λ k. class_of new c.deref-in-Zext.result.now ≡ Some k)) c.in-Some-6.is c.in_ok-of-in-Zext.ensures.class) c.in-Zext.w)

pub list_operands-returns-in-Some-7-clause-root : goal.list_operands-returns-in-Some-7-clause-root
list_operands-returns-in-Some-7-clause-root t c =
    let new = c.add_tree-in-Sext.new.self in
    subst (λ k. IsRootOf new k (Sext c.in-Some-7.of c.in-Sext.w)) (sym c.in-Sext.is)
    (sext_root new c.in-Sext.a c.in-Some-7.of (sym (ap (class_of new) c.deref-in-Sext.ensures)
    ∙ subst (λ o. IfSome o (λ k. class_of new c.deref-in-Sext.result.now ≡ Some k)) c.in-Some-7.is c.in_ok-of-in-Sext.ensures.class) c.in-Sext.w)

pub add_tree-returns-in-Some-clause-stands : goal.add_tree-returns-in-Some-clause-stands
add_tree-returns-in-Some-clause-stands t c =
    root_stands c.list_operands.new.self c.add.new.self c.args.tree.now c.in-Some.node c.add.result
    (subst (λ o. IfSome o (IsRootOf c.list_operands.new.self c.args.tree.now)) c.in-Some.is c.in_ok-node.ensures.root) c.add.ensures.grows c.add.ensures.listed
