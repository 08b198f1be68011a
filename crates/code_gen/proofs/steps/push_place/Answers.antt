use Rattle.std.proofs.Common.{◌≡◌, ◌∙◌, ◌++◌, OnOk, Option, Some, ap, length, refl, slice_get, subst, sym}
use Rattle.std.proofs.lemmas.Option.{slice_get_read}
use Rattle.form_model.specs.declared.flow.Flow.{Flow}
use Rattle.mode_set.specs.Plans.{stock_at}
use Rattle.src_trees.specs.Blocks.{job_at}
use Rattle.right_code.specs.Cuts.{plan_at}
use Rattle.code_gen.specs.Inner.Planning.{planned_steps, plans_in, jobs_in}
use Rattle.code_gen.proofs.Stepping.{placeless, unassigned}
use Rattle.code_gen.proofs.steps.push_place.Goals as goal

pub returns-in_default : goal.returns-in_default
returns-in_default c =
    let modes = c.args.program.now.modes in
    let program = c.args.program.now in
    placeless (stock_at modes.forms.now program.temps) (jobs_in program) (plans_in program) program.flow.now c.args.at c.args.steps.now.items c.in_default.ensures.lookup.3

pub returns-in-Assign : goal.returns-in-Assign
returns-in-Assign c =
    let modes = c.args.program.now.modes in
    let program = c.args.program.now in
    let place = c.in-Some.ensures.lookup in
    let has : slice_get program.flow.now c.args.at ≡ Some c.in-Some.place.now = slice_get_read program.flow.now (length program.flow.now) c.args.at c.in-Some.place.now refl place.3.0 place.1 in
    let is = c.in-Assign.is in
    subst (λ (o : Option Flow). OnOk c.push_job.result (c.push_job.new.steps.items ≡ c.args.steps.now.items ++ planned_steps modes program.temps (job_at (jobs_in program) o) (plan_at (plans_in program) o)))
    (sym (has ∙ ap (λ (f : Flow). Some f) is)) c.push_job.ensures

pub returns-in_default-place : goal.returns-in_default-place
returns-in_default-place c =
    let modes = c.args.program.now.modes in
    let program = c.args.program.now in
    let place = c.in-Some.ensures.lookup in
    let has : slice_get program.flow.now c.args.at ≡ Some c.in-Some.place.now = slice_get_read program.flow.now (length program.flow.now) c.args.at c.in-Some.place.now refl place.3.0 place.1 in
    let none = c.in_default-place.not-Assign in
    unassigned (stock_at modes.forms.now program.temps) (jobs_in program) (plans_in program) (slice_get program.flow.now c.args.at) c.in-Some.place.now c.args.steps.now.items has none
