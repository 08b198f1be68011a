use Rattle.std.proofs.Common.{subst, arith}
use Rattle.std.proofs.lemmas.Grind.{common_steps}
use Rattle.std.proofs.lemmas.Result.{IfOk-at_ok, IfOk-from_err}
use Rattle.src_model.specs.Written.{model_of_src_node, low}
use Rattle.src_model.specs.Fitting.{Fitting}
use Rattle.src_model.proofs.FittingLemmas.{width_wide}
use Rattle.rec_bits.specs.Operators.{IsWidth}
use Rattle.src_trees.proofs.trees.+tree.Goals as goal

pub tree-overflow_cast-result-in-Low : goal.tree-overflow_cast-result-in-Low
tree-overflow_cast-result-in-Low t c =
    let x = c.in-Low.x.value in
    let f : Fitting c.args.memory.now.word c.args.asked (low x.at (model_of_src_node x.node) c.in-Low.width) = subst (λ n. Fitting c.args.memory.now.word c.args.asked (model_of_src_node n)) c.in-Low.is c.requires.fitting in
    let i = subst IsWidth c.word-word.ensures.value c.word-word.ensures.wide in
    let w = width_wide c.args.memory.now.word c.args.memory.now.word (model_of_src_node x.node) i i f.0 in
    omega (arith, w, f.2)

pub tree-returns-in_ok-left-in-Bin-2 : goal.tree-returns-in_ok-left-in-Bin-2
tree-returns-in_ok-left-in-Bin-2 t c =
    let made = IfOk-at_ok _ c.in_ok-left-in-Bin-2.ensures.made c.operand-in-Bin-2.ensures in
    grind (arith, common_steps, made)

pub tree-returns-in_err-address-in-Var : goal.tree-returns-in_err-address-in-Var
tree-returns-in_err-address-in-Var t c = IfOk-from_err c.from_residual.result _ c.from_residual.ensures.0

pub tree-returns-in_err-place-in-Var : goal.tree-returns-in_err-place-in-Var
tree-returns-in_err-place-in-Var t c = IfOk-from_err c.from_residual-in_err-place-in-Var.result _ c.from_residual-in_err-place-in-Var.ensures.0

pub tree-returns-in_err-operand-in-Un : goal.tree-returns-in_err-operand-in-Un
tree-returns-in_err-operand-in-Un t c = IfOk-from_err c.from_residual-in_err-operand-in-Un.result _ c.from_residual-in_err-operand-in-Un.ensures.0

pub tree-returns-in_err-left-in-Bin : goal.tree-returns-in_err-left-in-Bin
tree-returns-in_err-left-in-Bin t c = IfOk-from_err c.from_residual-in_err-left-in-Bin.result _ c.from_residual-in_err-left-in-Bin.ensures.0

pub tree-returns-in_err-left-in-Bin-2 : goal.tree-returns-in_err-left-in-Bin-2
tree-returns-in_err-left-in-Bin-2 t c = IfOk-from_err c.from_residual-in_err-left-in-Bin-2.result _ c.from_residual-in_err-left-in-Bin-2.ensures.0

pub tree-returns-in_err-operand-in-Zext : goal.tree-returns-in_err-operand-in-Zext
tree-returns-in_err-operand-in-Zext t c = IfOk-from_err c.from_residual-in_err-operand-in-Zext.result _ c.from_residual-in_err-operand-in-Zext.ensures.0

pub tree-returns-in_err-operand-in-Sext : goal.tree-returns-in_err-operand-in-Sext
tree-returns-in_err-operand-in-Sext t c = IfOk-from_err c.from_residual-in_err-operand-in-Sext.result _ c.from_residual-in_err-operand-in-Sext.ensures.0

pub tree-returns-in_err-operand-in-Low : goal.tree-returns-in_err-operand-in-Low
tree-returns-in_err-operand-in-Low t c = IfOk-from_err c.from_residual-in_err-operand-in-Low.result _ c.from_residual-in_err-operand-in-Low.ensures.0

pub operand-returns-in_err-tree : goal.operand-returns-in_err-tree
operand-returns-in_err-tree t c = IfOk-from_err c.from_residual.result _ c.from_residual.ensures.0

pub operand-returns-in_err-made : goal.operand-returns-in_err-made
operand-returns-in_err-made t c = IfOk-from_err c.from_residual-in_err-made.result _ c.from_residual-in_err-made.ensures.0

pub address-returns-in_err-index-in-None-number_of : goal.address-returns-in_err-index-in-None-number_of
address-returns-in_err-index-in-None-number_of t c = IfOk-from_err c.from_residual.result _ c.from_residual.ensures.0

pub address-returns-in_err-address-in-None-number_of : goal.address-returns-in_err-address-in-None-number_of
address-returns-in_err-address-in-None-number_of t c = IfOk-from_err c.from_residual-in_err-address-in-None-number_of.result _ c.from_residual-in_err-address-in-None-number_of.ensures.0
