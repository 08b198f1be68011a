use Rattle.std.proofs.Common.{◌≡◌, Some, arith, map, slice_get}
use Rattle.std.proofs.lemmas.Result.{IfOk-from_err, err_from_is_err_and}
use Rattle.std.proofs.lemmas.List.{length-map}
use Rattle.mode_set.specs.Plans.{UsableAt, model_of_plan, stock_at}
use Rattle.src_trees.specs.Jobs.{model_of_job, models_of_jobs}
use Rattle.code_gen.proofs.Listing.{mapped_get, planned_count, plans_more, prices_more, uncovered}
use Rattle.code_gen.proofs.covers.plans_of.Goals as goal

pub overflow_cast-len : goal.overflow_cast-len
overflow_cast-len c =
    let jobs = models_of_jobs c.args.jobs.now in
    let plans = c.loop-job.plans in
    let long = length-map c.args.jobs.now model_of_job in
    let count = planned_count (stock_at c.args.forms.now c.args.temps) (UsableAt c.args.usable.now) jobs (map model_of_plan plans.items) c.loop-job.job-index (omega (arith, long, c.loop-job-test.true)) c.loop-job.invariant.planned in
    let same = length-map plans.items model_of_plan in
    omega (arith, count, same, plans.ok.0, c.len.ensures)

pub returns-in_err-plan-clause-refused : goal.returns-in_err-plan-clause-refused
returns-in_err-plan-clause-refused c =
    let stock = stock_at c.args.forms.now c.args.temps in
    let usable = UsableAt c.args.usable.now in
    let jobs = models_of_jobs c.args.jobs.now in
    let plans = c.loop-job.plans in
    let number = c.loop-job.job-index in
    let long = length-map c.args.jobs.now model_of_job in
    let count = planned_count stock usable jobs (map model_of_plan plans.items) number (omega (arith, long, c.loop-job-test.true)) c.loop-job.invariant.planned in
    let same = length-map plans.items model_of_plan in
    let told : c.len.result ≡ number = omega (arith, count, same, plans.ok.0, c.len.ensures) in
    let p = err_from_is_err_and c.from_residual.result c.from_residual.ensures.1 in
    rw (p.1, p.2)
    (uncovered stock usable jobs (map model_of_plan plans.items) number (model_of_job c.job-item.result) _ c.loop-job.invariant.planned
    (mapped_get model_of_job c.args.jobs.now number c.job-item.result c.loop-job-test.true c.job-item.is)
    (rw told at c.in_err-plan.ensures.refused))

pub loop-job-preserved : goal.loop-job-preserved
loop-job-preserved c =
    let stock = stock_at c.args.forms.now c.args.temps in
    let usable = UsableAt c.args.usable.now in
    let jobs = models_of_jobs c.args.jobs.now in
    let number = c.loop-job.job-index in
    let job = model_of_job c.job-item.result in
    let at : slice_get jobs number ≡ Some job = mapped_get model_of_job c.args.jobs.now number c.job-item.result c.loop-job-test.true c.job-item.is in
    record {
      planned =
          plans_more stock usable jobs c.loop-job.plans.items c.push.new.self.items number job c.in_ok-plan.plan at c.in_ok-push.ensures.items c.loop-job.invariant.planned c.in_ok-plan.ensures.planned;
      costs =
          prices_more stock usable jobs c.loop-job.plans.items c.push.new.self.items number job c.in_ok-plan.plan at c.in_ok-push.ensures.items c.loop-job.invariant.planned c.in_ok-plan.ensures.cost
          c.loop-job.invariant.costs;
    }

pub returns-in_err-plan-clause-planned : goal.returns-in_err-plan-clause-planned
returns-in_err-plan-clause-planned c = IfOk-from_err c.from_residual.result _ c.from_residual.ensures.0

pub returns-in_err-plan-clause-costs : goal.returns-in_err-plan-clause-costs
returns-in_err-plan-clause-costs c = IfOk-from_err c.from_residual.result _ c.from_residual.ensures.0

pub returns-in_err-push-clause-planned : goal.returns-in_err-push-clause-planned
returns-in_err-push-clause-planned c = IfOk-from_err c.from_residual-in_err-push.result _ c.from_residual-in_err-push.ensures.0

pub returns-in_err-push-clause-costs : goal.returns-in_err-push-clause-costs
returns-in_err-push-clause-costs c = IfOk-from_err c.from_residual-in_err-push.result _ c.from_residual-in_err-push.ensures.0
