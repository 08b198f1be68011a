use Rattle.std.proofs.lemmas.Result.{IfOk-from_err}
use Rattle.std.proofs.Common.{◌≡◌, ◌∙◌, ◌+◌, inl, inr, Some, ap, slice_get, sym, true}
use Rattle.std.proofs.lemmas.Option.{slice_get-get_or}
use Rattle.form_model.specs.declared.flow.Flow.{Flow}
use Rattle.form_model.specs.declared.flow.Flow.TheVariants.{Assign, End, Jump}
use Rattle.src_trees.specs.Blocks.{continues, is_assign}
use Rattle.branch_fix.specs.Parts.{place_blocks, place_tests}
use Rattle.code_gen.specs.Inner.Coded.{AreCodedTo}
use Rattle.code_gen.specs.Inner.Planning.{plans_in, jobs_in}
use Rattle.code_gen.proofs.Coding.{skipped}
use Rattle.code_gen.proofs.blocks.push_code.Goals as goal

pub returns-then-continues-clause-code : goal.returns-then-continues-clause-code
returns-then-continues-clause-code c = λ task isas p.
    (let program = c.args.program.now in
    let flow = program.flow.now in
    let place : slice_get flow c.args.at ≡ Some (Assign c.in-Assign.field-0) =
    slice_get-get_or flow c.args.at (Assign 0) c.requires.within ∙ ap (λ (f : Flow). Some f) c.in-Assign.is in
    let goes_on : continues flow c.args.at ≡ true = sym c.if-continues.ensures in
    skipped task isas flow (jobs_in program) (plans_in program) c.args.at c.args.code.now.blocks.items c.args.code.now.branches.items
    (c.requires.code task isas p) (λ j. place_blocks (place j) (goes_on j)) (ap place_tests place))

pub push_run-requires-clause-assigns : goal.push_run-requires-clause-assigns
push_run-requires-clause-assigns c =
    ap is_assign (slice_get-get_or c.args.program.now.flow.now c.args.at (Assign 0) c.requires.within ∙ ap (λ (f : Flow). Some f) c.in-Assign.is)

pub push_test-requires-clause-place : goal.push_test-requires-clause-place
push_test-requires-clause-place c = record {
  when_one = c.in-Test.when_one;
  when_zero = c.in-Test.when_zero;
  place = slice_get-get_or c.args.program.now.flow.now c.args.at (Assign 0) c.requires.within ∙ ap (λ (f : Flow). Some f) c.in-Test.is;
}

pub returns-in-Jump-clause-code : goal.returns-in-Jump-clause-code
returns-in-Jump-clause-code c =
    let program = c.args.program.now in
    let flow = program.flow.now in
    let code = c.args.code.now in
    let read = slice_get-get_or flow c.args.at (Assign 0) c.requires.within in
    elim c.in-Jump.is as (λ _. AreCodedTo c.args.program.now.modes program (c.args.at + 1) code.blocks.items code.branches.items) [
      | inl jump ↦
          (let place : slice_get flow c.args.at ≡ Some (Jump jump.0) = read ∙ ap (λ (f : Flow). Some f) jump.1 in
          λ task isas p. skipped task isas flow (jobs_in program) (plans_in program) c.args.at code.blocks.items code.branches.items (c.requires.code task isas p)
          (ap (λ o. place_blocks o (continues flow c.args.at)) place) (ap place_tests place))
      | inr e ↦
          (let place : slice_get flow c.args.at ≡ Some End = read ∙ ap (λ (f : Flow). Some f) e in
          λ task isas p. skipped task isas flow (jobs_in program) (plans_in program) c.args.at code.blocks.items code.branches.items (c.requires.code task isas p)
          (ap (λ o. place_blocks o (continues flow c.args.at)) place) (ap place_tests place))
    ]

pub returns-in_err-push_run-in-Assign-clause-code : goal.returns-in_err-push_run-in-Assign-clause-code
returns-in_err-push_run-in-Assign-clause-code c = IfOk-from_err c.from_residual.result _ c.from_residual.ensures.0

pub returns-in_err-push_run-in-Assign-clause-once : goal.returns-in_err-push_run-in-Assign-clause-once
returns-in_err-push_run-in-Assign-clause-once c = IfOk-from_err c.from_residual.result _ c.from_residual.ensures.0

pub returns-in_err-push_test-in-Test-clause-code : goal.returns-in_err-push_test-in-Test-clause-code
returns-in_err-push_test-in-Test-clause-code c = IfOk-from_err c.from_residual-in_err-push_test-in-Test.result _ c.from_residual-in_err-push_test-in-Test.ensures.0

pub returns-in_err-push_test-in-Test-clause-once : goal.returns-in_err-push_test-in-Test-clause-once
returns-in_err-push_test-in-Test-clause-once c = IfOk-from_err c.from_residual-in_err-push_test-in-Test.result _ c.from_residual-in_err-push_test-in-Test.ensures.0
