use Rattle.std.proofs.Common.{ap, ◌∙◌, ◌+◌, refl, sym}
use Rattle.std.proofs.lemmas.Result.{IfOk-from_err}
use Rattle.net_model.specs.Exprs.{size_of}
use Rattle.form_model.specs.Trees.{model_of_tree}
use Rattle.tree_grammar.specs.Numbers.{subtrees}
use Rattle.tree_grammar.proofs.NumberLemmas.{lift_left, lift_right, inner_ok}
use Rattle.tree_grammar.proofs.UnaryLemmas.{unary_subtrees}
use Rattle.tree_grammar.proofs.terms.+take.Goals as goal

pub returns-in-Some-clause-at : goal.returns-in-Some-clause-at
returns-in-Some-clause-at t c =
    inner_ok _ (model_of_tree c.args.subtree.tree.now) _ (model_of_tree c.in-Some.pair.tree.now) _ c.args.subtree.at c.inner.result.at _ _ (unary_subtrees _ _ _ (sym c.in-Some.ensures)) (ap model_of_tree c.inner.ensures.tree) (c.inner.ensures.at ∙ c.in_ok-plus.ensures) c.take.ensures.at

pub returns-in_default-2-clause-at : goal.returns-in_default-2-clause-at
returns-in_default-2-clause-at t c =
    lift_left (model_of_tree c.args.subtree.tree.now) _ (model_of_tree c.in-Bin-tree.l.value) (model_of_tree c.in-Bin-tree.r.value) _ c.args.subtree.at c.inner-in-Bin.result.at _ _ (ap (λ x. subtrees (model_of_tree x)) c.in-Bin-tree.is) (ap model_of_tree (c.inner-in-Bin.ensures.tree ∙ c.deref-in-Bin-3.ensures)) (c.inner-in-Bin.ensures.at ∙ c.in_ok-next-in-Bin.ensures) c.in_ok-x-in-Bin.ensures.at

pub returns-in_default-3-clause-at : goal.returns-in_default-3-clause-at
returns-in_default-3-clause-at t c = λ nodes holds old.
    lift_right (model_of_tree c.args.subtree.tree.now) _ (model_of_tree c.in-Bin-tree.l.value) (model_of_tree c.in-Bin-tree.r.value) _ c.args.subtree.at c.in_ok-next-in-Bin.next c.inner-in-Bin-2.result.at _ _ (ap (λ x. subtrees (model_of_tree x)) c.in-Bin-tree.is) (ap model_of_tree (c.inner-in-Bin-2.ensures.tree ∙ c.deref-in-Bin-5.ensures)) c.in_ok-next-in-Bin.ensures (c.inner-in-Bin-2.ensures.at ∙ c.in_ok-after-in-Bin.ensures ∙ ap (λ x. c.in_ok-next-in-Bin.next + size_of (model_of_tree x)) c.deref-in-Bin.ensures) c.in_ok-y-in-Bin.ensures.at nodes holds
    (lift_left (model_of_tree c.args.subtree.tree.now) _ (model_of_tree c.in-Bin-tree.l.value) (model_of_tree c.in-Bin-tree.r.value) _ c.args.subtree.at c.inner-in-Bin.result.at _ _ (ap (λ x. subtrees (model_of_tree x)) c.in-Bin-tree.is) (ap model_of_tree (c.inner-in-Bin.ensures.tree ∙ c.deref-in-Bin-3.ensures)) (c.inner-in-Bin.ensures.at ∙ c.in_ok-next-in-Bin.ensures) c.in_ok-x-in-Bin.ensures.at nodes holds old)

pub returns-in-Some-3-clause-at : goal.returns-in-Some-3-clause-at
returns-in-Some-3-clause-at t c = λ nodes holds old.
    lift_right (model_of_tree c.args.subtree.tree.now) _ (model_of_tree c.in-Bin-tree.l.value) (model_of_tree c.in-Bin-tree.r.value) _ c.args.subtree.at c.in_ok-next-in-Bin.next c.inner-in-Bin-2.result.at _ _ (ap (λ x. subtrees (model_of_tree x)) c.in-Bin-tree.is) (ap model_of_tree (c.inner-in-Bin-2.ensures.tree ∙ c.deref-in-Bin-5.ensures)) c.in_ok-next-in-Bin.ensures (c.inner-in-Bin-2.ensures.at ∙ c.in_ok-after-in-Bin.ensures ∙ ap (λ x. c.in_ok-next-in-Bin.next + size_of (model_of_tree x)) c.deref-in-Bin.ensures) c.in_ok-y-in-Bin.ensures.at nodes holds
    (lift_left (model_of_tree c.args.subtree.tree.now) _ (model_of_tree c.in-Bin-tree.l.value) (model_of_tree c.in-Bin-tree.r.value) _ c.args.subtree.at c.inner-in-Bin.result.at _ _ (ap (λ x. subtrees (model_of_tree x)) c.in-Bin-tree.is) (ap model_of_tree (c.inner-in-Bin.ensures.tree ∙ c.deref-in-Bin-3.ensures)) (c.inner-in-Bin.ensures.at ∙ c.in_ok-next-in-Bin.ensures) c.in_ok-x-in-Bin.ensures.at nodes holds old)

pub returns-in_ok-plus-in-Read-clause-at : goal.returns-in_ok-plus-in-Read-clause-at
returns-in_ok-plus-in-Read-clause-at t c =
    inner_ok _ (model_of_tree c.args.subtree.tree.now) _ (model_of_tree c.in-Read-tree.b.value) _ c.args.subtree.at c.in_ok-plus-in-Read.field-0 _ _ (ap (λ x. subtrees (model_of_tree x)) c.in-Read-tree.is) (ap model_of_tree c.deref-in-Read-2.ensures) c.in_ok-plus-in-Read.ensures c.take-in-Read.ensures.at

pub returns-in_err-plus-clause-found : goal.returns-in_err-plus-clause-found
returns-in_err-plus-clause-found t c = IfOk-from_err c.from_residual.result _ c.from_residual.ensures.0

pub returns-in_err-plus-clause-at : goal.returns-in_err-plus-clause-at
returns-in_err-plus-clause-at t c = IfOk-from_err c.from_residual.result _ c.from_residual.ensures.0

pub returns-in_err-plus-in-Read-clause-found : goal.returns-in_err-plus-in-Read-clause-found
returns-in_err-plus-in-Read-clause-found t c = IfOk-from_err c.from_residual-in_err-plus-in-Read.result _ c.from_residual-in_err-plus-in-Read.ensures.0

pub returns-in_err-plus-in-Read-clause-at : goal.returns-in_err-plus-in-Read-clause-at
returns-in_err-plus-in-Read-clause-at t c = IfOk-from_err c.from_residual-in_err-plus-in-Read.result _ c.from_residual-in_err-plus-in-Read.ensures.0

pub returns-in_err-next-in-Bin-clause-found : goal.returns-in_err-next-in-Bin-clause-found
returns-in_err-next-in-Bin-clause-found t c = IfOk-from_err c.from_residual-in_err-next-in-Bin.result _ c.from_residual-in_err-next-in-Bin.ensures.0

pub returns-in_err-next-in-Bin-clause-at : goal.returns-in_err-next-in-Bin-clause-at
returns-in_err-next-in-Bin-clause-at t c = IfOk-from_err c.from_residual-in_err-next-in-Bin.result _ c.from_residual-in_err-next-in-Bin.ensures.0

pub returns-in_err-after-in-Bin-clause-found : goal.returns-in_err-after-in-Bin-clause-found
returns-in_err-after-in-Bin-clause-found t c = IfOk-from_err c.from_residual-in_err-after-in-Bin.result _ c.from_residual-in_err-after-in-Bin.ensures.0

pub returns-in_err-after-in-Bin-clause-at : goal.returns-in_err-after-in-Bin-clause-at
returns-in_err-after-in-Bin-clause-at t c = IfOk-from_err c.from_residual-in_err-after-in-Bin.result _ c.from_residual-in_err-after-in-Bin.ensures.0

pub returns-in_err-x-in-Bin-clause-found : goal.returns-in_err-x-in-Bin-clause-found
returns-in_err-x-in-Bin-clause-found t c = IfOk-from_err c.from_residual-in_err-x-in-Bin.result _ c.from_residual-in_err-x-in-Bin.ensures.0

pub returns-in_err-x-in-Bin-clause-at : goal.returns-in_err-x-in-Bin-clause-at
returns-in_err-x-in-Bin-clause-at t c = IfOk-from_err c.from_residual-in_err-x-in-Bin.result _ c.from_residual-in_err-x-in-Bin.ensures.0

pub returns-in_err-y-in-Bin-clause-found : goal.returns-in_err-y-in-Bin-clause-found
returns-in_err-y-in-Bin-clause-found t c = IfOk-from_err c.from_residual-in_err-y-in-Bin.result _ c.from_residual-in_err-y-in-Bin.ensures.0

pub returns-in_err-y-in-Bin-clause-at : goal.returns-in_err-y-in-Bin-clause-at
returns-in_err-y-in-Bin-clause-at t c = IfOk-from_err c.from_residual-in_err-y-in-Bin.result _ c.from_residual-in_err-y-in-Bin.ensures.0
