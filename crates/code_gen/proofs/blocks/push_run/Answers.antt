use Rattle.std.proofs.lemmas.Result.{IfOk-from_err}
use Rattle.std.proofs.Common.{◌+◌, slice_get, sym, subst}
use Rattle.code_gen.specs.Inner.Coded.{IsBlockCode}
use Rattle.code_gen.specs.Inner.Planning.{plans_in, jobs_in}
use Rattle.code_gen.proofs.Coding.{no_test, run_more}
use Rattle.code_gen.proofs.blocks.push_run.Goals as goal

pub returns-clause-code : goal.returns-clause-code
returns-clause-code c = λ task isas p.
    (let program = c.args.program.now in
    let flow = program.flow.now in
    let code = c.args.code.now in
    subst (λ blocks. IsBlockCode task isas flow (jobs_in program) (plans_in program) (c.args.at + 1) blocks code.branches.items)
    (sym c.in_ok-push.ensures.items)
    (run_more task isas flow (jobs_in program) (plans_in program) c.args.at c.block_length-count.result
    code.blocks.items code.branches.items c.in_ok-block.block (c.requires.code task isas p) c.block_length-count.ensures.block (no_test (slice_get flow c.args.at) c.requires.assigns) (c.in_ok-block.ensures.code task isas p)))

pub returns-in_err-block-clause-code : goal.returns-in_err-block-clause-code
returns-in_err-block-clause-code c = IfOk-from_err c.from_residual.result _ c.from_residual.ensures.0

pub returns-in_err-block-clause-once : goal.returns-in_err-block-clause-once
returns-in_err-block-clause-once c = IfOk-from_err c.from_residual.result _ c.from_residual.ensures.0

pub returns-in_err-push-clause-code : goal.returns-in_err-push-clause-code
returns-in_err-push-clause-code c = IfOk-from_err c.from_residual-in_err-push.result _ c.from_residual-in_err-push.ensures.0

pub returns-in_err-push-clause-once : goal.returns-in_err-push-clause-once
returns-in_err-push-clause-once c = IfOk-from_err c.from_residual-in_err-push.result _ c.from_residual-in_err-push.ensures.0
