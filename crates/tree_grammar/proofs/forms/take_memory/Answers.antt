use Rattle.std.proofs.Common.{subst, sym}
use Rattle.std.proofs.lemmas.Result.{IfOk-from_err}
use Rattle.form_model.specs.Trees.{model_of_tree}
use Rattle.tree_grammar.specs.Numbers.{HoldsSubtrees}
use Rattle.tree_grammar.proofs.forms.take_memory.Goals as goal

pub returns-in_default-2-clause-at : goal.returns-in_default-2-clause-at
returns-in_default-2-clause-at c = λ nodes s old. c.in_ok-x.ensures.at nodes s.address old

pub returns-in_default-3-clause-at : goal.returns-in_default-3-clause-at
returns-in_default-3-clause-at c = λ nodes s old.
    c.in_ok-y.ensures.at nodes (subst (λ n. HoldsSubtrees nodes n (model_of_tree c.args.goal.tree.now)) (sym c.in_ok-value_number.ensures) s.value) (c.in_ok-x.ensures.at nodes s.address old)

pub returns-clause-at : goal.returns-clause-at
returns-clause-at c = λ nodes s old.
    c.in_ok-y.ensures.at nodes (subst (λ n. HoldsSubtrees nodes n (model_of_tree c.args.goal.tree.now)) (sym c.in_ok-value_number.ensures) s.value) (c.in_ok-x.ensures.at nodes s.address old)

pub returns-in_err-value_number-clause-found : goal.returns-in_err-value_number-clause-found
returns-in_err-value_number-clause-found c = IfOk-from_err c.from_residual.result _ c.from_residual.ensures.0

pub returns-in_err-value_number-clause-at : goal.returns-in_err-value_number-clause-at
returns-in_err-value_number-clause-at c = IfOk-from_err c.from_residual.result _ c.from_residual.ensures.0

pub returns-in_err-x-clause-found : goal.returns-in_err-x-clause-found
returns-in_err-x-clause-found c = IfOk-from_err c.from_residual-in_err-x.result _ c.from_residual-in_err-x.ensures.0

pub returns-in_err-x-clause-at : goal.returns-in_err-x-clause-at
returns-in_err-x-clause-at c = IfOk-from_err c.from_residual-in_err-x.result _ c.from_residual-in_err-x.ensures.0

pub returns-in_err-y-clause-found : goal.returns-in_err-y-clause-found
returns-in_err-y-clause-found c = IfOk-from_err c.from_residual-in_err-y.result _ c.from_residual-in_err-y.ensures.0

pub returns-in_err-y-clause-at : goal.returns-in_err-y-clause-at
returns-in_err-y-clause-at c = IfOk-from_err c.from_residual-in_err-y.result _ c.from_residual-in_err-y.ensures.0
