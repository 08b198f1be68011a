use Rattle.std.proofs.Common.{◌≡◌, ◌++◌, ap, ◌∙◌, subst}
use Rattle.std.proofs.lemmas.List.{map_push}
use Rattle.std.proofs.lemmas.Result.{on_ok_weaker}
use Rattle.std.specs.Borrow.{Bor}
use Rattle.form_model.specs.Trees.{model_of_tree}
use Rattle.form_model.specs.declared.trees.Tree.{Tree}
use Rattle.tree_sharing.specs.Sharing.{exprs_at}
use Rattle.tree_sharing.specs.Inner.Sharing.{operand_subtrees}
use Rattle.tree_sharing.proofs.ListingLemmas.{listed}
use Rattle.tree_sharing.proofs.listing.+listing.Goals as goal

pub list-returns : goal.list-returns
list-returns t c =
    let root = ap exprs_at c.in_ok-push.ensures.items ∙ map_push (λ (tree : Bor Tree). model_of_tree tree.now) c.args.out.now.items _ in
    on_ok_weaker c.list_operand-2.result (λ e. listed c.args.tree.now (exprs_at c.args.out.now.items) (exprs_at c.push.new.self.items) (exprs_at c.list_operand.new.out.items) (exprs_at c.list_operand-2.new.out.items) root
    (subst (λ o. exprs_at c.list_operand.new.out.items ≡ exprs_at c.push.new.self.items ++ operand_subtrees o) c.first_operand.ensures c.in_ok-list_operand.ensures)
    (subst (λ o. exprs_at c.list_operand-2.new.out.items ≡ exprs_at c.list_operand.new.out.items ++ operand_subtrees o) c.second_operand.ensures e)) c.list_operand-2.ensures
