use Rattle.std.proofs.Common.{◌≡◌, map, take}
use Rattle.mode_set.specs.Plans.{UsableAt, model_of_plan, stock_at}
use Rattle.src_trees.specs.Jobs.{models_of_jobs}
use Rattle.right_code.specs.Covered.{AllPlanned, plan_costs}
use Rattle.code_gen.specs.Inner.Planning.{told_costs}
use Rattle.code_gen.proofs.covers.plans_of.Given as goal

abbrev pub invariant-loop-job : goal.invariant-loop-job
invariant-loop-job l = record {
  planned : AllPlanned (stock_at l.forms l.temps) (UsableAt l.usable) (take l.job-index (models_of_jobs l.jobs)) (map model_of_plan l.plans.items);
  costs : told_costs l.plans.items ≡ plan_costs (take l.job-index (models_of_jobs l.jobs)) (map model_of_plan l.plans.items);
}
