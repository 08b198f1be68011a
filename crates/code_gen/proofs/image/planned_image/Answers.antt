use Rattle.std.proofs.Common.{◌∙◌, List, ap, arith, length, map, refl, sym}
use Rattle.std.proofs.lemmas.List.{length-map}
use Rattle.std.proofs.lemmas.Result.{IfErr-weaker, IfOk-weaker, err_from_is_err_and}
use Rattle.right_code.proofs.Covering.{planned_length}
use Rattle.form_model.specs.declared.trees.Job.{Job}
use Rattle.mode_set.specs.Plans.{UsableAt, model_of_plan, stock_at}
use Rattle.src_trees.specs.Jobs.{model_of_job, models_of_jobs}
use Rattle.code_gen.proofs.Built.{few_places, few_jobs, told_fault, told_reached}
use Rattle.code_gen.proofs.Told.{coded_planning, uncovered}
use Rattle.code_gen.proofs.image.planned_image.Goals as goal

pub plans_of-requires-clause-jobs : goal.plans_of-requires-clause-jobs
plans_of-requires-clause-jobs c =
    let t = c.requires.coded in
    let few = few_jobs t.task t.is.checked in
    let jobs = ap (λ (js : List Job). length (models_of_jobs js)) c.deref.ensures.value ∙ ap length t.is.jobs in
    let long = length-map c.deref.result.now model_of_job in
    omega (arith, few, jobs, long)

pub returns-in_err-plans-clause-refused : goal.returns-in_err-plans-clause-refused
returns-in_err-plans-clause-refused c =
    let p = err_from_is_err_and c.from_residual.result c.from_residual.ensures.1 in
    rw (p.1, p.2)
    (λ task is.
    uncovered c.args.modes.now task is.told.isas is.checked is.told.are c.args.places.temps is.placed.temps c.args.modes.now.usable.now is.told.usable is.steps is.jumps
    (models_of_jobs c.deref.result.now) (ap models_of_jobs c.deref.ensures.value ∙ is.jobs) _ c.in_err-plans.ensures.refused)

pub covered_image-requires-clause-task : goal.covered_image-requires-clause-task
covered_image-requires-clause-task c =
    let t = c.requires.coded in
    record {
      task = t.task;
      isas = t.is.told.isas;
      planning =
          coded_planning c.args.modes.now c.args.modes.now.usable.now c.args.places c.args.blocks.now t.task t.is _ c.deref.result.now c.in_ok-plans.plans.items c.deref.ensures.value refl c.as_slice.ensures
          (c.deref-2.ensures.value ∙ sym c.deref.ensures.value) c.deref-3.ensures.value c.in_ok-plans.ensures.planned c.in_ok-plans.ensures.costs;
      placed = t.is.placed;
    }

pub covered_image-requires-clause-few : goal.covered_image-requires-clause-few
covered_image-requires-clause-few c =
    let t = c.requires.coded in
    let few = few_jobs t.task t.is.checked in
    let jobs = ap (λ (js : List Job). length (models_of_jobs js)) c.deref.ensures.value ∙ ap length t.is.jobs in
    let even = planned_length (stock_at c.args.modes.now.forms.now c.args.places.temps) (UsableAt c.args.modes.now.usable.now) (models_of_jobs c.deref.result.now) (map model_of_plan c.in_ok-plans.plans.items) c.in_ok-plans.ensures.planned in
    let plans = length-map c.in_ok-plans.plans.items model_of_plan in
    let given = ap length c.deref-3.ensures.value in
    omega (arith, few, jobs, even, plans, given)

pub covered_image-requires-clause-places : goal.covered_image-requires-clause-places
covered_image-requires-clause-places c =
    let t = c.requires.coded in
    let few = few_places t.task t.is.checked in
    let flow = ap length (c.as_slice.ensures ∙ t.is.flow) in
    omega (arith, few, flow)

pub returns-clause-right : goal.returns-clause-right
returns-clause-right c =
    IfOk-weaker c.covered_image.result _ _
    (λ image h. λ task is. (h task is.told.isas
    (coded_planning c.args.modes.now c.args.modes.now.usable.now c.args.places c.args.blocks.now task is _ c.deref.result.now c.in_ok-plans.plans.items c.deref.ensures.value refl c.as_slice.ensures
    (c.deref-2.ensures.value ∙ sym c.deref.ensures.value) c.deref-3.ensures.value c.in_ok-plans.ensures.planned c.in_ok-plans.ensures.costs) is.placed).right)
    c.covered_image.ensures.right

pub returns-clause-fits : goal.returns-clause-fits
returns-clause-fits c =
    IfOk-weaker c.covered_image.result _ _
    (λ image h. λ task is. h task is.told.isas
    (coded_planning c.args.modes.now c.args.modes.now.usable.now c.args.places c.args.blocks.now task is _ c.deref.result.now c.in_ok-plans.plans.items c.deref.ensures.value refl c.as_slice.ensures
    (c.deref-2.ensures.value ∙ sym c.deref.ensures.value) c.deref-3.ensures.value c.in_ok-plans.ensures.planned c.in_ok-plans.ensures.costs) is.placed)
    c.covered_image.ensures.fits

pub returns-clause-reached : goal.returns-clause-reached
returns-clause-reached c =
    IfOk-weaker c.covered_image.result _ _
    (λ image h. λ task is. told_reached c.args.modes.now _ c.args.places task is.told.isas
    (coded_planning c.args.modes.now c.args.modes.now.usable.now c.args.places c.args.blocks.now task is _ c.deref.result.now c.in_ok-plans.plans.items c.deref.ensures.value refl c.as_slice.ensures
    (c.deref-2.ensures.value ∙ sym c.deref.ensures.value) c.deref-3.ensures.value c.in_ok-plans.ensures.planned c.in_ok-plans.ensures.costs) is.placed is.steps is.jumps image h)
    c.covered_image.ensures.right

pub returns-clause-refused : goal.returns-clause-refused
returns-clause-refused c =
    IfErr-weaker c.covered_image.result _ _
    (λ fault h. λ task is. told_fault c.args.modes.now _ c.args.places task is.told.isas
    (coded_planning c.args.modes.now c.args.modes.now.usable.now c.args.places c.args.blocks.now task is _ c.deref.result.now c.in_ok-plans.plans.items c.deref.ensures.value refl c.as_slice.ensures
    (c.deref-2.ensures.value ∙ sym c.deref.ensures.value) c.deref-3.ensures.value c.in_ok-plans.ensures.planned c.in_ok-plans.ensures.costs) is.placed is.steps is.jumps fault h)
    c.covered_image.ensures.refused
