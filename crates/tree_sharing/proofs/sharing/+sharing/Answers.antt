use Rattle.std.proofs.Common.{◌+◌, ◌≡◌, arith, ap, subst}
use Rattle.form_model.specs.Trees.{model_of_tree}
use Rattle.tree_sharing.specs.Inner.Sharing.{operand_size, first_of, OperandShared}
use Rattle.tree_sharing.proofs.SharingLemmas.{share_more, tree_sizes}
use Rattle.tree_sharing.proofs.sharing.+sharing.Goals as goal

pub share-returns-clause-shared : goal.share-returns-clause-shared
share-returns-clause-shared t c =
    let tree = model_of_tree c.args.tree.now in
    let next : c.in_ok-x.x.next ≡ c.args.at + 1 + operand_size (first_of tree) =
    (let a = ap operand_size c.first_operand.ensures in omega (arith, a, c.in_ok-x.ensures.next)) in
    share_more c.args.sharing.now c.share_operand.new.sharing c.share_operand-2.new.sharing c.first_with.new.sharing tree c.args.at c.in_ok-x.x.next c.in_ok-x.x.first c.in_ok-y.y.first c.in_ok-first.first c.root_of.result (tree_sizes c.args.tree.now) next
    (subst (λ o. OperandShared c.args.sharing.now c.share_operand.new.sharing (c.args.at + 1) o c.in_ok-x.x.first) c.first_operand.ensures c.in_ok-x.ensures.shared)
    (subst (λ o. OperandShared c.share_operand.new.sharing c.share_operand-2.new.sharing c.in_ok-x.x.next o c.in_ok-y.y.first) c.second_operand.ensures c.in_ok-y.ensures.shared)
    c.root_of.ensures c.in_ok-first.ensures.first

pub share-returns-clause-next : goal.share-returns-clause-next
share-returns-clause-next t c =
    let s = tree_sizes c.args.tree.now in
    let a = ap operand_size c.first_operand.ensures in
    let b = ap operand_size c.second_operand.ensures in
    omega (arith, s, a, b, c.in_ok-x.ensures.next, c.in_ok-y.ensures.next)
