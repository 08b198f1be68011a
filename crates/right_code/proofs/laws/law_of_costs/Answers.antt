use Rattle.std.proofs.Common.{◌≡◌, true}
use Rattle.right_code.proofs.OneBound.{bound_one, costs_one, task_costs_one}
use Rattle.right_code.proofs.laws.law_of_costs.Goals as goal

pub returns-clause-jobs : goal.returns-clause-jobs
returns-clause-jobs c = λ stock usable jobs plans others h k. costs_one stock (λ v. usable v ≡ true) jobs plans others h k

pub returns-clause-task : goal.returns-clause-task
returns-clause-task c = λ task costs others a b. task_costs_one task costs others a b

pub returns-clause-bound : goal.returns-clause-bound
returns-clause-bound c = λ task bound other reach more a b. bound_one task bound reach other more a b
