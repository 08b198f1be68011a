use Rattle.std.proofs.Common.{◌≡◌, ◌+◌, ◌++◌, ◌∷◌, IfOk, drop, length, sym, ap, subst, ◌∙◌, arith, List, refl}
use Rattle.std.proofs.lemmas.Result.{IfOk-from_err, IfOk-weaker}
use Rattle.rec_bits.proofs.Faults.{drop_item}
use Rattle.src_model.specs.Written.{StmtModel, model_of_stmt, model_of_src_test, choice, while, count, without, otherwise}
use Rattle.src_model.specs.Sizes.{statements, statements_in}
use Rattle.src_model.specs.declared.program.Stmt.{Stmt}
use Rattle.src_trees.specs.Lowered.{MemoryMap, jobs_in}
use Rattle.src_trees.specs.Flows.{flow_in}
use Rattle.src_trees.specs.Jobs.{models_of_jobs}
use Rattle.src_trees.specs.Inner.Lowering.{IsPlain, ArePlain, IsReady, IsLowered, AreLowered}
use Rattle.src_trees.proofs.LowerLemmas.{if_lowered, else_lowered, while_lowered, for_lowered, for_at}
use Rattle.src_trees.proofs.LowerCases.{block_stmts, if_none, if_some, while_is, for_is, counted, other_may, step_may, room, room_both, flow_on, jobs_on, ready_on, few_on}
use Rattle.src_trees.proofs.flow.+lower.Goals as goal

-- ---- statements

pub lower_statement-lower_if-requires : goal.lower_statement-lower_if-requires
lower_statement-lower_if-requires t c =
    let is = if_none c.args.statement.now c.in-If.test c.in-If.yes c.in-If.no c.deref.result.now c.in-If.is c.deref.ensures.value c.in-None.is in
    let s = ap statements is in
    (omega (arith, s), (subst (IsReady c.args.at c.args.jobs.now) s c.requires.ready, subst (IsPlain c.args.memory.now.word c.args.memory.now.places) is c.requires.plain))

pub lower_statement-lower_else-requires : goal.lower_statement-lower_else-requires
lower_statement-lower_else-requires t c =
    let is = if_some c.args.statement.now c.in-If.test c.in-If.yes c.in-Some.other c.in-If.no c.deref-in-Some.result.now c.deref-in-Some-2.result.now c.in-If.is c.deref-in-Some.ensures.value c.in-Some.is c.deref-in-Some-2.ensures.value in
    let s = ap statements is in
    (omega (arith, s), (subst (IsReady c.args.at c.args.jobs.now) s c.requires.ready, subst (IsPlain c.args.memory.now.word c.args.memory.now.places) is c.requires.plain))

pub lower_statement-lower_while-requires : goal.lower_statement-lower_while-requires
lower_statement-lower_while-requires t c =
    let is = while_is c.args.statement.now c.in-While.test c.in-While.body c.deref-in-While.result.now c.in-While.is c.deref-in-While.ensures.value in
    let s = ap statements is in
    (omega (arith, s), (subst (IsReady c.args.at c.args.jobs.now) s c.requires.ready, subst (IsPlain c.args.memory.now.word c.args.memory.now.places) is c.requires.plain))

pub lower_statement-lower_for-requires : goal.lower_statement-lower_for-requires
lower_statement-lower_for-requires t c =
    let is = for_is c.args.statement.now c.in-For.counter c.in-For.at c.in-For.from c.in-For.to c.in-For.body c.deref-in-For.result.now c.in-For.is c.deref-in-For.ensures.value in
    let s = ap statements is in
    (omega (arith, s), (subst (IsReady c.args.at c.args.jobs.now) s c.requires.ready, subst (IsPlain c.args.memory.now.word c.args.memory.now.places) is c.requires.plain))

pub lower_statement-returns-in-None : goal.lower_statement-returns-in-None
lower_statement-returns-in-None t c =
    let is = if_none c.args.statement.now c.in-If.test c.in-If.yes c.in-If.no c.deref.result.now c.in-If.is c.deref.ensures.value c.in-None.is in
    subst (λ a. IfOk c.lower_if.result (IsLowered c.args.memory.now a c.args.at c.args.jobs.now c.lower_if.new.jobs)) (sym is) c.lower_if.ensures

pub lower_statement-returns-in-Some : goal.lower_statement-returns-in-Some
lower_statement-returns-in-Some t c =
    let is = if_some c.args.statement.now c.in-If.test c.in-If.yes c.in-Some.other c.in-If.no c.deref-in-Some.result.now c.deref-in-Some-2.result.now c.in-If.is c.deref-in-Some.ensures.value c.in-Some.is c.deref-in-Some-2.ensures.value in
    subst (λ a. IfOk c.lower_else.result (IsLowered c.args.memory.now a c.args.at c.args.jobs.now c.lower_else.new.jobs)) (sym is) c.lower_else.ensures

pub lower_statement-returns-in-While : goal.lower_statement-returns-in-While
lower_statement-returns-in-While t c =
    let is = while_is c.args.statement.now c.in-While.test c.in-While.body c.deref-in-While.result.now c.in-While.is c.deref-in-While.ensures.value in
    subst (λ a. IfOk c.lower_while.result (IsLowered c.args.memory.now a c.args.at c.args.jobs.now c.lower_while.new.jobs)) (sym is) c.lower_while.ensures

pub lower_statement-returns-in-For : goal.lower_statement-returns-in-For
lower_statement-returns-in-For t c =
    let is = for_is c.args.statement.now c.in-For.counter c.in-For.at c.in-For.from c.in-For.to c.in-For.body c.deref-in-For.result.now c.in-For.is c.deref-in-For.ensures.value in
    for_at c.args.memory.now (model_of_stmt c.args.statement.now) c.args.at c.args.jobs.now c.lower_for.new.jobs c.in-For.counter c.in-For.at c.in-For.from c.in-For.to (block_stmts c.deref-in-For.result.now) c.lower_for.result is c.lower_for.ensures

-- ---- `if`

pub lower_if-if_flow-requires : goal.lower_if-if_flow-requires
lower_if-if_flow-requires t c =
    let b = counted c.args.memory.now (block_stmts c.args.taken.now) (c.args.at + 1) c.push_job.new.jobs c.lower_block.new.jobs c.in_ok-inner.inner c.in_ok-inner.ensures in
    let a : StmtModel = choice (model_of_src_test c.args.test.now) (block_stmts c.args.taken.now) without in
    room c.args.memory.now.word c.args.memory.now.places a c.args.at c.args.jobs.now c.requires.ready c.requires.plain (block_stmts c.args.taken.now) c.push_job.new.jobs c.lower_block.new.jobs c.in_ok-inner.inner c.as_slice.result.now (omega arith) b c.as_slice.ensures

pub lower_if-returns : goal.lower_if-returns
lower_if-returns t c =
    let m : MemoryMap = c.args.memory.now in
    let taken = block_stmts c.args.taken.now in
    IfOk-weaker c.if_flow.result _ _
    (λ flow made. if_lowered m (choice (model_of_src_test c.args.test.now) taken without) c.args.at c.args.jobs.now (model_of_src_test c.args.test.now) c.push_job.new.jobs c.in_ok-job.job c.in_ok-tree.tree c.in_ok-job.ensures c.in_ok-tree.ensures.pushed c.in_ok-tree.ensures.number
    taken c.lower_block.new.jobs c.as_slice.result.now flow refl
    (subst (AreLowered m taken (c.args.at + 1) c.push_job.new.jobs c.lower_block.new.jobs) (sym c.as_slice.ensures) c.in_ok-inner.ensures) made)
    c.if_flow.ensures

pub lower_else-overflow_cast-over : goal.lower_else-overflow_cast-over
lower_else-overflow_cast-over t c =
    let b = counted c.args.memory.now (block_stmts c.args.branches.now.taken.now) (c.args.at + 1) c.push_job.new.jobs c.lower_block.new.jobs c.in_ok-inner.inner c.in_ok-inner.ensures in
    let few = b.flow in
    let place = c.requires.ready.place in
    let more = c.requires.ready.few in
    omega (arith, few, place, more, c.len.ensures)

pub lower_else-overflow_add-over-2 : goal.lower_else-overflow_add-over-2
lower_else-overflow_add-over-2 t c =
    let b = counted c.args.memory.now (block_stmts c.args.branches.now.taken.now) (c.args.at + 1) c.push_job.new.jobs c.lower_block.new.jobs c.in_ok-inner.inner c.in_ok-inner.ensures in
    let few = b.flow in
    let place = c.requires.ready.place in
    let more = c.requires.ready.few in
    omega (arith, few, place, more, c.len.ensures)

pub lower_else-overflow_add-over-3 : goal.lower_else-overflow_add-over-3
lower_else-overflow_add-over-3 t c =
    let b = counted c.args.memory.now (block_stmts c.args.branches.now.taken.now) (c.args.at + 1) c.push_job.new.jobs c.lower_block.new.jobs c.in_ok-inner.inner c.in_ok-inner.ensures in
    let few = b.flow in
    let place = c.requires.ready.place in
    let more = c.requires.ready.few in
    omega (arith, few, place, more, c.len.ensures)

pub lower_else-lower_block-requires-2 : goal.lower_else-lower_block-requires-2
lower_else-lower_block-requires-2 t c =
    let taken = block_stmts c.args.branches.now.taken.now in
    let other = block_stmts c.args.branches.now.other.now in
    let b = counted c.args.memory.now taken (c.args.at + 1) c.push_job.new.jobs c.lower_block.new.jobs c.in_ok-inner.inner c.in_ok-inner.ensures in
    let r = other_may c.args.memory.now.word c.args.memory.now.places (choice (model_of_src_test c.args.test.now) taken (otherwise other)) c.args.at c.args.jobs.now c.requires.ready c.requires.plain (model_of_src_test c.args.test.now) taken other c.push_job.new.jobs c.lower_block.new.jobs
    c.in_ok-job.job c.in_ok-inner.inner c.len.result refl c.in_ok-tree.ensures.pushed b c.len.ensures in
    (omega arith, (r.ready, r.plain))

pub lower_else-else_flow-requires : goal.lower_else-else_flow-requires
lower_else-else_flow-requires t c =
    let taken = block_stmts c.args.branches.now.taken.now in
    let other = block_stmts c.args.branches.now.other.now in
    let b = counted c.args.memory.now taken (c.args.at + 1) c.push_job.new.jobs c.lower_block.new.jobs c.in_ok-inner.inner c.in_ok-inner.ensures in
    let d = counted c.args.memory.now other _ c.lower_block.new.jobs c.lower_block-2.new.jobs c.in_ok-after.after c.in_ok-after.ensures in
    room_both c.args.memory.now.word c.args.memory.now.places (choice (model_of_src_test c.args.test.now) taken (otherwise other)) c.args.at c.args.jobs.now c.requires.ready c.requires.plain taken other c.push_job.new.jobs c.lower_block.new.jobs
    c.lower_block-2.new.jobs c.in_ok-inner.inner c.in_ok-after.after c.as_slice.result.now c.as_slice-2.result.now (omega arith) b d c.as_slice.ensures c.as_slice-2.ensures

pub lower_else-returns : goal.lower_else-returns
lower_else-returns t c =
    let m : MemoryMap = c.args.memory.now in
    let taken = block_stmts c.args.branches.now.taken.now in
    let other = block_stmts c.args.branches.now.other.now in
    let n = c.len.ensures ∙ ap length (sym c.as_slice.ensures) in
    IfOk-weaker c.else_flow.result _ _
    (λ flow made. else_lowered m (choice (model_of_src_test c.args.test.now) taken (otherwise other)) c.args.at c.args.jobs.now (model_of_src_test c.args.test.now) c.push_job.new.jobs c.in_ok-job.job c.in_ok-tree.tree c.in_ok-job.ensures c.in_ok-tree.ensures.pushed c.in_ok-tree.ensures.number
    taken other c.lower_block.new.jobs c.lower_block-2.new.jobs c.as_slice.result.now c.as_slice-2.result.now flow refl
    (subst (AreLowered m taken (c.args.at + 1) c.push_job.new.jobs c.lower_block.new.jobs) (sym c.as_slice.ensures) c.in_ok-inner.ensures)
    (subst (λ k. AreLowered m other (c.args.at + 1 + k + 1) c.lower_block.new.jobs c.lower_block-2.new.jobs c.as_slice-2.result.now) n
    (subst (AreLowered m other (c.args.at + 1 + c.len.result + 1) c.lower_block.new.jobs c.lower_block-2.new.jobs) (sym c.as_slice-2.ensures) c.in_ok-after.ensures))
    made)
    c.else_flow.ensures

-- ---- `while`

pub lower_while-while_flow-requires : goal.lower_while-while_flow-requires
lower_while-while_flow-requires t c =
    let body = block_stmts c.args.body.now in
    let b = counted c.args.memory.now body (c.args.at + 1) c.push_job.new.jobs c.lower_block.new.jobs c.in_ok-inner.inner c.in_ok-inner.ensures in
    room c.args.memory.now.word c.args.memory.now.places (while (model_of_src_test c.args.test.now) body) c.args.at c.args.jobs.now c.requires.ready c.requires.plain body c.push_job.new.jobs c.lower_block.new.jobs c.in_ok-inner.inner c.as_slice.result.now (omega arith) b c.as_slice.ensures

pub lower_while-returns : goal.lower_while-returns
lower_while-returns t c =
    let m : MemoryMap = c.args.memory.now in
    let body = block_stmts c.args.body.now in
    IfOk-weaker c.while_flow.result _ _
    (λ flow made. while_lowered m (while (model_of_src_test c.args.test.now) body) c.args.at c.args.jobs.now (model_of_src_test c.args.test.now) c.push_job.new.jobs c.in_ok-job.job c.in_ok-tree.tree c.in_ok-job.ensures c.in_ok-tree.ensures.pushed c.in_ok-tree.ensures.number
    body c.lower_block.new.jobs c.as_slice.result.now flow refl
    (subst (AreLowered m body (c.args.at + 1) c.push_job.new.jobs c.lower_block.new.jobs) (sym c.as_slice.ensures) c.in_ok-inner.ensures) made)
    c.while_flow.ensures

-- ---- `for`

pub lower_for-push_job-requires-3 : goal.lower_for-push_job-requires-3
lower_for-push_job-requires-3 t c =
    let body = block_stmts c.args.body.now in
    let b = counted c.args.memory.now body (c.args.at + 2) c.push_job-2.new.jobs c.lower_block.new.jobs c.in_ok-inner.inner c.in_ok-inner.ensures in
    let long = b.jobs in
    let few = step_may c.args.memory.now.word c.args.memory.now.places (count c.args.counting.now.counter.now 0 c.args.counting.now.from c.args.counting.now.to body) c.args.at c.args.jobs.now c.requires.ready c.requires.plain c.args.counting.now.counter.now 0 c.args.counting.now.from c.args.counting.now.to body c.push_job.new.jobs
    c.push_job-2.new.jobs c.in_ok-start.start c.in_ok-test.test refl c.in_ok-tree.ensures.pushed c.in_ok-_test.ensures.pushed in
    omega (arith, long, few)

pub lower_for-for_flow-requires-clause-few : goal.lower_for-for_flow-requires-clause-few
lower_for-for_flow-requires-clause-few t c =
    let body = block_stmts c.args.body.now in
    let b = counted c.args.memory.now body (c.args.at + 2) c.push_job-2.new.jobs c.lower_block.new.jobs c.in_ok-inner.inner c.in_ok-inner.ensures in
    room c.args.memory.now.word c.args.memory.now.places (count c.args.counting.now.counter.now 0 c.args.counting.now.from c.args.counting.now.to body) c.args.at c.args.jobs.now c.requires.ready c.requires.plain body c.push_job-2.new.jobs c.lower_block.new.jobs c.in_ok-inner.inner
    c.as_slice.result.now (omega arith) b c.as_slice.ensures

pub lower_for-returns : goal.lower_for-returns
lower_for-returns t c =
    let m : MemoryMap = c.args.memory.now in
    let body = block_stmts c.args.body.now in
    IfOk-weaker c.for_flow.result _ _
    (λ flow made. for_lowered m (count c.args.counting.now.counter.now 0 c.args.counting.now.from c.args.counting.now.to body) c.args.at c.args.jobs.now c.args.counting.now.counter.now 0 c.args.counting.now.from c.args.counting.now.to body c.push_job.new.jobs c.push_job-2.new.jobs c.lower_block.new.jobs c.push_job-3.new.jobs
    c.in_ok-start.start c.in_ok-test.test c.in_ok-last.last c.in_ok-tree.tree c.in_ok-step.step c.as_slice.result.now flow refl c.in_ok-start.ensures c.in_ok-test.ensures c.in_ok-last.ensures c.in_ok-tree.ensures.pushed c.in_ok-_test.ensures.pushed
    (subst (AreLowered m body (c.args.at + 2) c.push_job-2.new.jobs c.lower_block.new.jobs) (sym c.as_slice.ensures) c.in_ok-inner.ensures) c.in_ok-step.ensures.pushed c.in_ok-tree.ensures.number c.in_ok-step.ensures.number made)
    c.for_flow.ensures

-- ---- blocks

pub lower_block-overflow_cast-place : goal.lower_block-overflow_cast-place
lower_block-overflow_cast-place t c =
    let is : drop c.loop-statement.statement-index c.args.block.now ≡ c.statement-item.result ∷ drop (c.loop-statement.statement-index + 1) c.args.block.now =
    drop_item c.args.block.now c.loop-statement.statement-index c.statement-item.result (omega arith) c.statement-item.is in
    let f = few_on c.args.memory.now (drop c.loop-statement.statement-index c.args.block.now) (drop (c.loop-statement.statement-index + 1) c.args.block.now) c.statement-item.result is c.loop-statement.place
    c.len.result c.loop-statement.jobs c.lower_statement.new.jobs c.in_ok-more.more c.in_ok-more.ensures c.len.ensures c.loop-statement.invariant.ready in
    omega (arith, f)

pub lower_block-overflow_add-place : goal.lower_block-overflow_add-place
lower_block-overflow_add-place t c =
    let is : drop c.loop-statement.statement-index c.args.block.now ≡ c.statement-item.result ∷ drop (c.loop-statement.statement-index + 1) c.args.block.now =
    drop_item c.args.block.now c.loop-statement.statement-index c.statement-item.result (omega arith) c.statement-item.is in
    let f = few_on c.args.memory.now (drop c.loop-statement.statement-index c.args.block.now) (drop (c.loop-statement.statement-index + 1) c.args.block.now) c.statement-item.result is c.loop-statement.place
    c.len.result c.loop-statement.jobs c.lower_statement.new.jobs c.in_ok-more.more c.in_ok-more.ensures c.len.ensures c.loop-statement.invariant.ready in
    omega (arith, f)

pub lower_block-loop-statement-preserved : goal.lower_block-loop-statement-preserved
lower_block-loop-statement-preserved t c =
    let m : MemoryMap = c.args.memory.now in
    let left : List Stmt = drop c.loop-statement.statement-index c.args.block.now in
    let rest : List Stmt = drop (c.loop-statement.statement-index + 1) c.args.block.now in
    let is : drop c.loop-statement.statement-index c.args.block.now ≡ c.statement-item.result ∷ drop (c.loop-statement.statement-index + 1) c.args.block.now =
    drop_item c.args.block.now c.loop-statement.statement-index c.statement-item.result (omega arith) c.statement-item.is in
    let s = ap (λ l. statements_in (block_stmts l)) is in
    let less = c.loop-statement.invariant.less in
    record {
      flow = flow_on m left rest c.statement-item.result is c.loop-statement.place c.len.result c.loop-statement.jobs c.lower_statement.new.jobs c.in_ok-more.more c.in_ok-more.ensures c.len.ensures c.loop-statement.flow.items c.extend_from_slice.new.self.items c.as_slice.result.now
          (flow_in (block_stmts c.args.block.now) (length c.args.jobs.now) c.args.at) c.in_ok-extend_from_slice.ensures.items c.as_slice.ensures c.loop-statement.invariant.flow;
      jobs = jobs_on m left rest c.statement-item.result is c.loop-statement.place c.len.result c.loop-statement.jobs c.lower_statement.new.jobs c.in_ok-more.more c.in_ok-more.ensures c.len.ensures (models_of_jobs c.args.jobs.now ++ jobs_in m (block_stmts c.args.block.now))
          c.loop-statement.invariant.jobs;
      ready = ready_on m left rest c.statement-item.result is c.loop-statement.place c.len.result c.loop-statement.jobs c.lower_statement.new.jobs c.in_ok-more.more c.in_ok-more.ensures c.len.ensures c.loop-statement.invariant.ready;
      plain = (subst (λ l. ArePlain m.word m.places (block_stmts l)) is c.loop-statement.invariant.plain).1;
      less = omega (arith, s, less);
    }

pub lower_statement-returns-in_err-job-in-Assign : goal.lower_statement-returns-in_err-job-in-Assign
lower_statement-returns-in_err-job-in-Assign t c = IfOk-from_err c.from_residual.result _ c.from_residual.ensures.0

pub lower_statement-returns-in_err-tree-in-Assign : goal.lower_statement-returns-in_err-tree-in-Assign
lower_statement-returns-in_err-tree-in-Assign t c = IfOk-from_err c.from_residual-in_err-tree-in-Assign.result _ c.from_residual-in_err-tree-in-Assign.ensures.0

pub lower_statement-returns-in_err-push-in-Assign : goal.lower_statement-returns-in_err-push-in-Assign
lower_statement-returns-in_err-push-in-Assign t c = IfOk-from_err c.from_residual-in_err-push-in-Assign.result _ c.from_residual-in_err-push-in-Assign.ensures.0

pub lower_if-returns-in_err-job : goal.lower_if-returns-in_err-job
lower_if-returns-in_err-job t c = IfOk-from_err c.from_residual.result _ c.from_residual.ensures.0

pub lower_if-returns-in_err-tree : goal.lower_if-returns-in_err-tree
lower_if-returns-in_err-tree t c = IfOk-from_err c.from_residual-in_err-tree.result _ c.from_residual-in_err-tree.ensures.0

pub lower_if-returns-in_err-inner : goal.lower_if-returns-in_err-inner
lower_if-returns-in_err-inner t c = IfOk-from_err c.from_residual-in_err-inner.result _ c.from_residual-in_err-inner.ensures.0

pub lower_else-returns-in_err-job : goal.lower_else-returns-in_err-job
lower_else-returns-in_err-job t c = IfOk-from_err c.from_residual.result _ c.from_residual.ensures.0

pub lower_else-returns-in_err-tree : goal.lower_else-returns-in_err-tree
lower_else-returns-in_err-tree t c = IfOk-from_err c.from_residual-in_err-tree.result _ c.from_residual-in_err-tree.ensures.0

pub lower_else-returns-in_err-inner : goal.lower_else-returns-in_err-inner
lower_else-returns-in_err-inner t c = IfOk-from_err c.from_residual-in_err-inner.result _ c.from_residual-in_err-inner.ensures.0

pub lower_else-returns-in_err-after : goal.lower_else-returns-in_err-after
lower_else-returns-in_err-after t c = IfOk-from_err c.from_residual-in_err-after.result _ c.from_residual-in_err-after.ensures.0

pub lower_while-returns-in_err-job : goal.lower_while-returns-in_err-job
lower_while-returns-in_err-job t c = IfOk-from_err c.from_residual.result _ c.from_residual.ensures.0

pub lower_while-returns-in_err-tree : goal.lower_while-returns-in_err-tree
lower_while-returns-in_err-tree t c = IfOk-from_err c.from_residual-in_err-tree.result _ c.from_residual-in_err-tree.ensures.0

pub lower_while-returns-in_err-inner : goal.lower_while-returns-in_err-inner
lower_while-returns-in_err-inner t c = IfOk-from_err c.from_residual-in_err-inner.result _ c.from_residual-in_err-inner.ensures.0

pub lower_for-returns-in_err-start : goal.lower_for-returns-in_err-start
lower_for-returns-in_err-start t c = IfOk-from_err c.from_residual.result _ c.from_residual.ensures.0

pub lower_for-returns-in_err-tree : goal.lower_for-returns-in_err-tree
lower_for-returns-in_err-tree t c = IfOk-from_err c.from_residual-in_err-tree.result _ c.from_residual-in_err-tree.ensures.0

pub lower_for-returns-in_err-test : goal.lower_for-returns-in_err-test
lower_for-returns-in_err-test t c = IfOk-from_err c.from_residual-in_err-test.result _ c.from_residual-in_err-test.ensures.0

pub lower_for-returns-in_err-_test : goal.lower_for-returns-in_err-_test
lower_for-returns-in_err-_test t c = IfOk-from_err c.from_residual-in_err-_test.result _ c.from_residual-in_err-_test.ensures.0

pub lower_for-returns-in_err-inner : goal.lower_for-returns-in_err-inner
lower_for-returns-in_err-inner t c = IfOk-from_err c.from_residual-in_err-inner.result _ c.from_residual-in_err-inner.ensures.0

pub lower_for-returns-in_err-last : goal.lower_for-returns-in_err-last
lower_for-returns-in_err-last t c = IfOk-from_err c.from_residual-in_err-last.result _ c.from_residual-in_err-last.ensures.0

pub lower_for-returns-in_err-step : goal.lower_for-returns-in_err-step
lower_for-returns-in_err-step t c = IfOk-from_err c.from_residual-in_err-step.result _ c.from_residual-in_err-step.ensures.0

pub lower_block-returns-in_err-more : goal.lower_block-returns-in_err-more
lower_block-returns-in_err-more t c = IfOk-from_err c.from_residual.result _ c.from_residual.ensures.0

pub lower_block-returns-in_err-extend_from_slice : goal.lower_block-returns-in_err-extend_from_slice
lower_block-returns-in_err-extend_from_slice t c = IfOk-from_err c.from_residual-in_err-extend_from_slice.result _ c.from_residual-in_err-extend_from_slice.ensures.0
