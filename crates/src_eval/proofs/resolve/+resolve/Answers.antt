use Rattle.std.proofs.Common.{refl, sym, subst, arith}
use Rattle.std.proofs.lemmas.Result.{IfOk-from_err, IfOk-weaker}
use Rattle.src_model.specs.Written.{model_of_src_node, low, zext}
use Rattle.src_model.specs.Fitting.{Fitting}
use Rattle.src_model.proofs.FittingLemmas.{width_wide}
use Rattle.src_eval.specs.Inner.Resolved.{Resolves}
use Rattle.src_eval.specs.declared.formula.Formula.{Low}
use Rattle.src_eval.proofs.ResolveLemmas.{zext_resolves, low_resolves, held_resolves}
use Rattle.src_eval.proofs.resolve.+resolve.Goals as goal

pub resolve-overflow_cast-result-in-Low : goal.resolve-overflow_cast-result-in-Low
resolve-overflow_cast-result-in-Low t c =
    let x = c.in-Low.x.value in
    let f : Fitting c.args.scope.now.word c.args.asked (low x.at (model_of_src_node x.node) c.in-Low.width) = subst (λ n. Fitting c.args.scope.now.word c.args.asked (model_of_src_node n)) c.in-Low.is c.requires.fitting in
    let w = width_wide c.args.scope.now.word c.args.scope.now.word (model_of_src_node x.node) c.requires.word c.requires.word f.0 in
    omega (arith, w, f.2)

pub resolve-returns-in-Zext : goal.resolve-returns-in-Zext
resolve-returns-in-Zext t c =
    let word = c.args.scope.now.word in
    let vars = c.args.scope.now.table in
    let x = c.in-Zext.x.value in
    let f : Fitting word c.args.asked (zext x.at (model_of_src_node x.node) c.in-Zext.field-1) = subst (λ n. Fitting word c.args.asked (model_of_src_node n)) c.in-Zext.is c.requires.fitting in
    IfOk-weaker c.resolve.result _ _
    (λ formula made.
    subst (λ n. Resolves word vars c.args.asked (model_of_src_node n) formula) (sym c.in-Zext.is)
    (zext_resolves word vars c.requires.word c.args.asked x.at (model_of_src_node x.node) c.in-Zext.field-1 f formula
    (held_resolves word vars word c.deref-in-Zext.result.now x formula formula c.deref-in-Zext.ensures refl made)))
    c.resolve.ensures

pub resolve-returns-in_ok-operand-in-Low : goal.resolve-returns-in_ok-operand-in-Low
resolve-returns-in_ok-operand-in-Low t c =
    let word = c.args.scope.now.word in
    let vars = c.args.scope.now.table in
    let x = c.in-Low.x.value in
    let b = c.in_ok-operand-in-Low.operand in
    let f : Fitting word c.args.asked (low x.at (model_of_src_node x.node) c.in-Low.width) = subst (λ n. Fitting word c.args.asked (model_of_src_node n)) c.in-Low.is c.requires.fitting in
    let r = held_resolves word vars word c.deref-in-Low.result.now x b.value b.value c.deref-in-Low.ensures refl c.in_ok-operand-in-Low.ensures in
    subst (λ n. Resolves word vars c.args.asked (model_of_src_node n) (Low c.in-Low.width b)) (sym c.in-Low.is)
    (low_resolves word vars c.requires.word c.args.asked x.at (model_of_src_node x.node) c.in-Low.width f b r)

pub resolve-returns-in_err-operand-in-Un : goal.resolve-returns-in_err-operand-in-Un
resolve-returns-in_err-operand-in-Un t c = IfOk-from_err c.from_residual.result _ c.from_residual.ensures.0

pub resolve-returns-in_err-left-in-Bin : goal.resolve-returns-in_err-left-in-Bin
resolve-returns-in_err-left-in-Bin t c = IfOk-from_err c.from_residual-in_err-left-in-Bin.result _ c.from_residual-in_err-left-in-Bin.ensures.0

pub resolve-returns-in_err-right-in-Bin : goal.resolve-returns-in_err-right-in-Bin
resolve-returns-in_err-right-in-Bin t c = IfOk-from_err c.from_residual-in_err-right-in-Bin.result _ c.from_residual-in_err-right-in-Bin.ensures.0

pub resolve-returns-in_err-operand-in-Sext : goal.resolve-returns-in_err-operand-in-Sext
resolve-returns-in_err-operand-in-Sext t c = IfOk-from_err c.from_residual-in_err-operand-in-Sext.result _ c.from_residual-in_err-operand-in-Sext.ensures.0

pub resolve-returns-in_err-operand-in-Low : goal.resolve-returns-in_err-operand-in-Low
resolve-returns-in_err-operand-in-Low t c = IfOk-from_err c.from_residual-in_err-operand-in-Low.result _ c.from_residual-in_err-operand-in-Low.ensures.0

pub operand-returns-in_err-formula : goal.operand-returns-in_err-formula
operand-returns-in_err-formula t c = IfOk-from_err c.from_residual.result _ c.from_residual.ensures.0

pub operand-returns-in_err-made : goal.operand-returns-in_err-made
operand-returns-in_err-made t c = IfOk-from_err c.from_residual-in_err-made.result _ c.from_residual-in_err-made.ensures.0

pub read-returns-in_err-index-in-Some : goal.read-returns-in_err-index-in-Some
read-returns-in_err-index-in-Some t c = IfOk-from_err c.from_residual.result _ c.from_residual.ensures.0
