use Rattle.std.proofs.Common.{sym, ap, ◌∙◌, ◌≡◌, ◌+◌, length, subst, arith}
use Rattle.std.proofs.lemmas.Result.{IfOk-from_err, on_ok_weaker}
use Rattle.src_model.specs.Written.{model_of_stmt}
use Rattle.src_model.specs.Sizes.{statements, statements_else}
use Rattle.src_model.proofs.Views.{else_stmts}
use Rattle.src_eval.specs.Inner.Laid.{entry, Laid, Ready, Built}
use Rattle.src_eval.proofs.BuildLemmas.{block_stmts, trees_of, trees_If, trees_While, trees_For}
use Rattle.src_eval.proofs.AssembleLemmas.{assign_all, while_may, while_all, if_may, if_all, taken_may, other_may, else_all, for_may, for_all}
use Rattle.src_eval.proofs.BlockLemmas.{going_from, first_fits, first_ready, going_on, going_end}
use Rattle.src_eval.proofs.build.+build.Goals as goal

-- ---- assignments

pub build-returns-in-Assign : goal.build-returns-in-Assign
build-returns-in-Assign t c =
    on_ok_weaker c.push_assign.result
    (λ made. assign_all c.args.scope.now.word c.args.scope.now.table c.args.steps.now c.push_assign.new.steps c.args.statement.now c.in-Assign.place c.in-Assign.value c.args.next c.in-Assign.is
    made c.requires.ready)
    c.push_assign.ensures

-- ---- `while`

pub build-build_block-requires-in-While : goal.build-build_block-requires-in-While
build-build_block-requires-in-While t c =
    let all = trees_While c.args.statement.now c.in-While.test c.in-While.body c.in-While.is in
    let here = ap trees_of c.deref-in-While-2.ensures.value in
    let may = while_may c.args.scope.now.word c.args.scope.now.table c.args.steps.now c.push_test-in-While.new.steps c.args.statement.now c.in-While.test c.in-While.body c.args.next c.len-tree-in-While.result c.entry-on_true-in-While.result
    c.in-While.is c.len-tree-in-While.ensures (c.entry-on_true-in-While.ensures ∙ ap (λ l. entry (block_stmts l) (c.len-tree-in-While.result + 1) c.len-tree-in-While.result) c.deref-in-While.ensures.value)
    c.in_ok-push_test-in-While.ensures c.requires.ready c.deref-in-While-2.result.now c.deref-in-While-2.ensures.value c.requires.fits in
    (omega (arith, all, here), (may.ready, may.fits))

pub build-returns-in_ok-push_test-in-While : goal.build-returns-in_ok-push_test-in-While
build-returns-in_ok-push_test-in-While t c =
    on_ok_weaker c.build_block-in-While.result
    (λ made. while_all c.args.scope.now.word c.args.scope.now.table c.args.steps.now c.push_test-in-While.new.steps c.args.statement.now c.in-While.test c.in-While.body c.args.next c.len-tree-in-While.result c.entry-on_true-in-While.result
    c.in-While.is c.len-tree-in-While.ensures (c.entry-on_true-in-While.ensures ∙ ap (λ l. entry (block_stmts l) (c.len-tree-in-While.result + 1) c.len-tree-in-While.result) c.deref-in-While.ensures.value)
    c.in_ok-push_test-in-While.ensures c.requires.ready c.build_block-in-While.new.steps c.deref-in-While-2.result.now c.deref-in-While-2.ensures.value made)
    c.build_block-in-While.ensures

-- ---- `if`

pub build-build_block-requires : goal.build-build_block-requires
build-build_block-requires t c =
    let all = trees_If c.args.statement.now c.in-If.test c.in-If.yes c.in-If.no c.in-If.is in
    let here = ap trees_of c.deref-in-None.ensures.value in
    let may = if_may c.args.scope.now.word c.args.scope.now.table c.args.steps.now c.push_test.new.steps c.args.statement.now c.in-If.test c.in-If.yes c.in-If.no c.args.next c.len-tree.result c.entry-on_true.result
    c.in-If.is c.in-None.is c.len-tree.ensures (c.entry-on_true.ensures ∙ ap (λ l. entry (block_stmts l) (c.len-tree.result + 1) c.args.next) c.deref.ensures.value)
    c.in_ok-push_test-in-None.ensures c.requires.ready c.deref-in-None.result.now c.deref-in-None.ensures.value c.requires.fits in
    (omega (arith, all, here), (may.ready, may.fits))

pub build-returns-in_ok-push_test-in-None : goal.build-returns-in_ok-push_test-in-None
build-returns-in_ok-push_test-in-None t c =
    on_ok_weaker c.build_block.result
    (λ made. if_all c.args.scope.now.word c.args.scope.now.table c.args.steps.now c.push_test.new.steps c.args.statement.now c.in-If.test c.in-If.yes c.in-If.no c.args.next c.len-tree.result c.entry-on_true.result
    c.in-If.is c.in-None.is c.len-tree.ensures (c.entry-on_true.ensures ∙ ap (λ l. entry (block_stmts l) (c.len-tree.result + 1) c.args.next) c.deref.ensures.value)
    c.in_ok-push_test-in-None.ensures c.requires.ready c.build_block.new.steps c.deref-in-None.result.now c.deref-in-None.ensures.value made)
    c.build_block.ensures

-- ---- `if` with `else`

pub build-trees_in-requires : goal.build-trees_in-requires
build-trees_in-requires t c =
    let all = trees_If c.args.statement.now c.in-If.test c.in-If.yes c.in-If.no c.in-If.is in
    let here = ap trees_of c.deref-in-Some-2.ensures.value in
    omega (arith, all, here, c.requires.ready.few)

pub build-overflow_add-tree-in-Some-2 : goal.build-overflow_add-tree-in-Some-2
build-overflow_add-tree-in-Some-2 t c =
    let all = trees_If c.args.statement.now c.in-If.test c.in-If.yes c.in-If.no c.in-If.is in
    let here = ap trees_of c.deref-in-Some-2.ensures.value in
    omega (arith, all, here, c.requires.ready.few, c.trees_in.ensures, c.len-tree.ensures)

pub build-build_block-requires-in-Some : goal.build-build_block-requires-in-Some
build-build_block-requires-in-Some t c =
    let all = trees_If c.args.statement.now c.in-If.test c.in-If.yes c.in-If.no c.in-If.is in
    let here = ap trees_of c.deref-in-Some-3.ensures.value in
    let may = taken_may c.args.scope.now.word c.args.scope.now.table c.args.steps.now c.push_test-in-Some.new.steps c.args.statement.now c.in-If.test c.in-If.yes c.in-Some.other c.in-If.no c.args.next c.len-tree.result c.trees_in.result
    c.entry-on_true.result c.entry-on_false.result c.in-If.is c.in-Some.is c.len-tree.ensures (c.trees_in.ensures ∙ ap trees_of c.deref-in-Some-2.ensures.value)
    (c.entry-on_true.ensures ∙ ap (λ l. entry (block_stmts l) (c.len-tree.result + 1) c.args.next) c.deref.ensures.value)
    (c.entry-on_false.ensures ∙ ap (λ l. entry (block_stmts l) (c.len-tree.result + 1 + c.trees_in.result) c.args.next) c.deref-in-Some.ensures.value)
    c.in_ok-push_test-in-Some.ensures c.requires.ready c.deref-in-Some-3.result.now c.deref-in-Some-3.ensures.value c.requires.fits in
    (omega (arith, all, here), (may.ready, may.fits))

pub build-build_block-requires-in-Some-2 : goal.build-build_block-requires-in-Some-2
build-build_block-requires-in-Some-2 t c =
    let all = trees_If c.args.statement.now c.in-If.test c.in-If.yes c.in-If.no c.in-If.is in
    let other = ap (λ o. statements_else (else_stmts o)) c.in-Some.is in
    let here = ap trees_of c.deref-in-Some-4.ensures.value in
    let may = other_may c.args.scope.now.word c.args.scope.now.table c.args.steps.now c.push_test-in-Some.new.steps c.args.statement.now c.in-If.test c.in-If.yes c.in-Some.other c.in-If.no c.args.next c.len-tree.result c.trees_in.result
    c.entry-on_true.result c.entry-on_false.result c.in-If.is c.in-Some.is c.len-tree.ensures (c.trees_in.ensures ∙ ap trees_of c.deref-in-Some-2.ensures.value)
    (c.entry-on_true.ensures ∙ ap (λ l. entry (block_stmts l) (c.len-tree.result + 1) c.args.next) c.deref.ensures.value)
    (c.entry-on_false.ensures ∙ ap (λ l. entry (block_stmts l) (c.len-tree.result + 1 + c.trees_in.result) c.args.next) c.deref-in-Some.ensures.value)
    c.in_ok-push_test-in-Some.ensures c.requires.ready c.build_block-in-Some.new.steps c.deref-in-Some-3.result.now c.deref-in-Some-4.result.now c.deref-in-Some-3.ensures.value c.deref-in-Some-4.ensures.value
    c.in_ok-build_block-in-Some.ensures c.requires.fits in
    (omega (arith, all, here, other), (may.ready, may.fits))

pub build-returns-in_ok-build_block-in-Some : goal.build-returns-in_ok-build_block-in-Some
build-returns-in_ok-build_block-in-Some t c =
    on_ok_weaker c.build_block-in-Some-2.result
    (λ made. else_all c.args.scope.now.word c.args.scope.now.table c.args.steps.now c.push_test-in-Some.new.steps c.args.statement.now c.in-If.test c.in-If.yes c.in-Some.other c.in-If.no c.args.next c.len-tree.result c.trees_in.result
    c.entry-on_true.result c.entry-on_false.result c.in-If.is c.in-Some.is c.len-tree.ensures (c.trees_in.ensures ∙ ap trees_of c.deref-in-Some-2.ensures.value)
    (c.entry-on_true.ensures ∙ ap (λ l. entry (block_stmts l) (c.len-tree.result + 1) c.args.next) c.deref.ensures.value)
    (c.entry-on_false.ensures ∙ ap (λ l. entry (block_stmts l) (c.len-tree.result + 1 + c.trees_in.result) c.args.next) c.deref-in-Some.ensures.value)
    c.in_ok-push_test-in-Some.ensures c.requires.ready c.build_block-in-Some.new.steps c.build_block-in-Some-2.new.steps c.deref-in-Some-3.result.now c.deref-in-Some-4.result.now c.deref-in-Some-3.ensures.value c.deref-in-Some-4.ensures.value
    c.in_ok-build_block-in-Some.ensures made)
    c.build_block-in-Some-2.ensures

-- ---- `for`

pub build-trees_in-requires-in-For : goal.build-trees_in-requires-in-For
build-trees_in-requires-in-For t c =
    let all = trees_For c.args.statement.now c.in-For.counter c.in-For.at c.in-For.from c.in-For.to c.in-For.body c.in-For.is in
    let here = ap trees_of c.deref-in-For.ensures.value in
    omega (arith, all, here, c.requires.ready.few)

pub build-overflow_add-step-in-For : goal.build-overflow_add-step-in-For
build-overflow_add-step-in-For t c =
    let all = trees_For c.args.statement.now c.in-For.counter c.in-For.at c.in-For.from c.in-For.to c.in-For.body c.in-For.is in
    let here = ap trees_of c.deref-in-For.ensures.value in
    omega (arith, all, here, c.requires.ready.few, c.trees_in-in-For.ensures, c.len-tree-in-For.ensures)

pub build-build_block-requires-in-For : goal.build-build_block-requires-in-For
build-build_block-requires-in-For t c =
    let all = trees_For c.args.statement.now c.in-For.counter c.in-For.at c.in-For.from c.in-For.to c.in-For.body c.in-For.is in
    let here = ap trees_of c.deref-in-For-3.ensures.value in
    let may = for_may c.args.scope.now.word c.args.scope.now.table c.args.steps.now c.push_start.new.steps c.push_counting.new.steps c.args.statement.now c.in-For.counter c.in-For.at c.in-For.from c.in-For.to c.in-For.body
    c.args.next c.len-tree-in-For.result c.trees_in-in-For.result c.entry-on_true-in-For.result c.in-For.is c.len-tree-in-For.ensures (c.trees_in-in-For.ensures ∙ ap trees_of c.deref-in-For.ensures.value)
    (c.entry-on_true-in-For.ensures ∙ ap (λ l. entry (block_stmts l) (c.len-tree-in-For.result + 2) (c.len-tree-in-For.result + 2 + c.trees_in-in-For.result)) c.deref-in-For-2.ensures.value)
    c.in_ok-push_start-in-For.ensures c.in_ok-push_counting-in-For.ensures c.requires.ready c.deref-in-For-3.result.now c.deref-in-For-3.ensures.value c.requires.fits in
    (omega (arith, all, here), (may.ready, may.fits))

pub build-returns-in_ok-build_block-in-For : goal.build-returns-in_ok-build_block-in-For
build-returns-in_ok-build_block-in-For t c =
    on_ok_weaker c.push_step.result
    (λ made. for_all c.args.scope.now.word c.args.scope.now.table c.args.steps.now c.push_start.new.steps c.push_counting.new.steps c.args.statement.now c.in-For.counter c.in-For.at c.in-For.from c.in-For.to c.in-For.body
    c.args.next c.len-tree-in-For.result c.trees_in-in-For.result c.entry-on_true-in-For.result c.in-For.is c.len-tree-in-For.ensures (c.trees_in-in-For.ensures ∙ ap trees_of c.deref-in-For.ensures.value)
    (c.entry-on_true-in-For.ensures ∙ ap (λ l. entry (block_stmts l) (c.len-tree-in-For.result + 2) (c.len-tree-in-For.result + 2 + c.trees_in-in-For.result)) c.deref-in-For-2.ensures.value)
    c.in_ok-push_start-in-For.ensures c.in_ok-push_counting-in-For.ensures c.requires.ready c.build_block-in-For.new.steps c.push_step.new.steps c.deref-in-For-3.result.now c.deref-in-For-3.ensures.value
    c.in_ok-build_block-in-For.ensures made)
    c.push_step.ensures

-- ---- blocks

pub build_block-loop-statement-init : goal.build_block-loop-statement-init
build_block-loop-statement-init t c = going_from c.args.scope.now.word c.args.scope.now.table c.args.steps.now c.args.block.now c.args.next c.requires.ready c.requires.fits

pub build_block-trees-requires : goal.build_block-trees-requires
build_block-trees-requires t c =
    let g = c.loop-statement.invariant in
    let p = ap trees_of c.in-Some.ensures.cases.0 in
    omega (arith, p, g.ready.few)

pub build_block-overflow_add-len : goal.build_block-overflow_add-len
build_block-overflow_add-len t c =
    let g = c.loop-statement.invariant in
    let p = ap trees_of c.in-Some.ensures.cases.0 in
    omega (arith, p, g.ready.few, c.len.ensures, c.trees.ensures)

pub build_block-build-requires : goal.build_block-build-requires
build_block-build-requires t c =
    let g = c.loop-statement.invariant in
    let s = c.in-Some.statement.now in
    let rest = c.in-Some.rest.now in
    let is = c.in-Some.ensures.cases.0 in
    let p = ap trees_of is in
    let to : c.entry-after.result ≡ entry (block_stmts rest) (length c.loop-statement.steps + statements (model_of_stmt s)) c.args.next =
    c.entry-after.ensures ∙ (λ j. entry (block_stmts rest) (c.len.ensures j + c.trees.ensures j) c.args.next) in
    let ready = first_ready c.args.scope.now.word c.args.scope.now.table c.args.steps.now c.loop-statement.steps c.args.block.now c.loop-statement.left.now c.args.next s rest is g in
    let fits = first_fits c.args.scope.now.word c.args.scope.now.table c.args.steps.now c.loop-statement.steps c.args.block.now c.loop-statement.left.now c.args.next s rest is g in
    (omega (arith, p, g.grown, g.longer), (subst (λ n. Ready c.args.scope.now.word c.loop-statement.steps (statements (model_of_stmt s)) n) (sym to) ready, fits))

pub build_block-loop-statement-preserved : goal.build_block-loop-statement-preserved
build_block-loop-statement-preserved t c =
    let g = c.loop-statement.invariant in
    let s = c.in-Some.statement.now in
    let rest = c.in-Some.rest.now in
    let is = c.in-Some.ensures.cases.0 in
    let to : c.entry-after.result ≡ entry (block_stmts rest) (length c.loop-statement.steps + statements (model_of_stmt s)) c.args.next =
    c.entry-after.ensures ∙ (λ j. entry (block_stmts rest) (c.len.ensures j + c.trees.ensures j) c.args.next) in
    going_on c.args.scope.now.word c.args.scope.now.table c.args.steps.now c.loop-statement.steps c.args.block.now c.loop-statement.left.now c.args.next s rest is g c.build.new.steps
    (subst (λ n. Built c.args.scope.now.word c.loop-statement.steps c.build.new.steps (statements (model_of_stmt s)) (λ last. Laid c.args.scope.now.word c.args.scope.now.table last (model_of_stmt s) (length c.loop-statement.steps) n)) to c.in_ok-build.ensures)

pub build_block-returns : goal.build_block-returns
build_block-returns t c = going_end c.args.scope.now.word c.args.scope.now.table c.args.steps.now c.loop-statement.steps c.args.block.now c.loop-statement.left.now c.args.next c.in_default.ensures.cases c.loop-statement.invariant

pub build-returns-in_err-push_test-in-None : goal.build-returns-in_err-push_test-in-None
build-returns-in_err-push_test-in-None t c = IfOk-from_err c.from_residual.result _ c.from_residual.ensures.0

pub build-returns-in_err-push_test-in-Some : goal.build-returns-in_err-push_test-in-Some
build-returns-in_err-push_test-in-Some t c = IfOk-from_err c.from_residual-in_err-push_test-in-Some.result _ c.from_residual-in_err-push_test-in-Some.ensures.0

pub build-returns-in_err-build_block-in-Some : goal.build-returns-in_err-build_block-in-Some
build-returns-in_err-build_block-in-Some t c = IfOk-from_err c.from_residual-in_err-build_block-in-Some.result _ c.from_residual-in_err-build_block-in-Some.ensures.0

pub build-returns-in_err-push_test-in-While : goal.build-returns-in_err-push_test-in-While
build-returns-in_err-push_test-in-While t c = IfOk-from_err c.from_residual-in_err-push_test-in-While.result _ c.from_residual-in_err-push_test-in-While.ensures.0

pub build-returns-in_err-push_start-in-For : goal.build-returns-in_err-push_start-in-For
build-returns-in_err-push_start-in-For t c = IfOk-from_err c.from_residual-in_err-push_start-in-For.result _ c.from_residual-in_err-push_start-in-For.ensures.0

pub build-returns-in_err-push_counting-in-For : goal.build-returns-in_err-push_counting-in-For
build-returns-in_err-push_counting-in-For t c = IfOk-from_err c.from_residual-in_err-push_counting-in-For.result _ c.from_residual-in_err-push_counting-in-For.ensures.0

pub build-returns-in_err-build_block-in-For : goal.build-returns-in_err-build_block-in-For
build-returns-in_err-build_block-in-For t c = IfOk-from_err c.from_residual-in_err-build_block-in-For.result _ c.from_residual-in_err-build_block-in-For.ensures.0

pub build_block-returns-in_err-build : goal.build_block-returns-in_err-build
build_block-returns-in_err-build t c = IfOk-from_err c.from_residual.result _ c.from_residual.ensures.0
