use Rattle.std.proofs.Common.{◌++◌, ◌∙◌, List, ap, arith, sym}
use Rattle.std.proofs.lemmas.List.{length-map}
use Rattle.std.proofs.lemmas.Option.{slice_get-get_or}
use Rattle.form_model.specs.Covers.{StockModel}
use Rattle.form_model.specs.Steps.{cover_steps}
use Rattle.form_model.specs.declared.forms.Step.{Step}
use Rattle.mode_set.specs.Plans.{forms_stock, model_of_plan, stock_at}
use Rattle.src_trees.specs.Jobs.{model_of_job}
use Rattle.code_gen.specs.Inner.Planning.{plans_in, jobs_in}
use Rattle.code_gen.proofs.Frames.{emitted_covers, plan_forms, plan_mode}
use Rattle.code_gen.proofs.Listing.{mapped_get}
use Rattle.code_gen.proofs.ModeRegs.{mode_offset}
use Rattle.code_gen.proofs.Stepping.{covered_steps, jobless, planless}
use Rattle.code_gen.proofs.steps.push_job.Goals as goal

pub returns-in_default : goal.returns-in_default
returns-in_default c =
    let program = c.args.program.now in
    jobless (stock_at c.args.program.now.modes.forms.now program.temps) (jobs_in program) (plans_in program) c.args.tree c.args.steps.now.items
    (omega (arith, length-map program.jobs.now model_of_job, c.in_default.ensures.lookup.3))

pub returns-in_default-get : goal.returns-in_default-get
returns-in_default-get c =
    let program = c.args.program.now in
    planless (stock_at c.args.program.now.modes.forms.now program.temps) (jobs_in program) (plans_in program) c.args.tree c.args.steps.now.items
    (omega (arith, length-map program.plans.now model_of_plan, c.in_default-get.ensures.lookup.3))

-- the mode of a plan has its forms
pub bounds-modes-plan : goal.bounds-modes-plan
bounds-modes-plan c =
    let program = c.args.program.now in
    let p = c.requires in
    let plan = c.in-Some-get.ensures.lookup in
    plan_forms c.args.program.now.modes program p.task p.isas p.planning c.args.tree (model_of_plan c.in-Some-get.plan.now) (mapped_get model_of_plan program.plans.now c.args.tree c.in-Some-get.plan.now plan.3.0 plan.1)

pub offset_bounds-modes-plan : goal.offset_bounds-modes-plan
offset_bounds-modes-plan c =
    let program = c.args.program.now in
    let p = c.requires in
    let plan = c.in-Some-get.ensures.lookup in
    let planned = model_of_plan c.in-Some-get.plan.now in
    mode_offset p.task.netlist p.planning.checked.netlist planned.mode
    (plan_mode program.modes program p.task p.isas p.planning c.args.tree planned (mapped_get model_of_plan program.plans.now c.args.tree c.in-Some-get.plan.now plan.3.0 plan.1))

pub returns : goal.returns
returns c =
    let modes = c.args.program.now.modes in
    let program = c.args.program.now in
    let p = c.requires in
    let job = c.in-Some.ensures.lookup in
    let plan = c.in-Some-get.ensures.lookup in
    let planned = model_of_plan c.in-Some-get.plan.now in
    let has = mapped_get model_of_plan program.plans.now c.args.tree c.in-Some-get.plan.now plan.3.0 plan.1 in
    let emitted = c.in_ok-emitted.ensures in
    c.in_ok-extend_from_slice.ensures.items
    ∙ ap (λ (steps : List Step). c.args.steps.now.items ++ steps)
    (c.as_slice.ensures
    ∙ covered_steps (stock_at modes.forms.now program.temps) (jobs_in program) (plans_in program) c.args.tree (model_of_job c.in-Some.job.now) planned emitted.tree c.in_ok-emitted.emitted.steps
    (mapped_get model_of_job program.jobs.now c.args.tree c.in-Some.job.now job.3.0 job.1) has emitted.used
    (emitted.steps
    ∙ ap (λ (stock : StockModel). cover_steps stock (model_of_job c.in-Some.job.now).destination emitted.tree planned.choice.cover)
    (sym (ap (forms_stock program.temps) (slice_get-get_or modes.forms.now planned.mode c.index-modes-plan.result (plan_forms modes program p.task p.isas p.planning c.args.tree planned has))))))

pub emit-requires : goal.emit-requires
emit-requires c =
    let modes = c.args.program.now.modes in
    let program = c.args.program.now in
    let p = c.requires in
    let job = c.in-Some.ensures.lookup in
    let plan = c.in-Some-get.ensures.lookup in
    let planned = model_of_plan c.in-Some-get.plan.now in
    let has = mapped_get model_of_plan program.plans.now c.args.tree c.in-Some-get.plan.now plan.3.0 plan.1 in
    emitted_covers modes program p.task p.isas p.planning c.args.tree (model_of_job c.in-Some.job.now) planned _
    (mapped_get model_of_job program.jobs.now c.args.tree c.in-Some.job.now job.3.0 job.1) has
    (slice_get-get_or modes.forms.now planned.mode c.index-modes-plan.result (plan_forms modes program p.task p.isas p.planning c.args.tree planned has))
