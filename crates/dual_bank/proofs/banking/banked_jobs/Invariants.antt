use Rattle.std.proofs.Common.{◌≡◌, ◌++◌, drop, map}
use Rattle.src_trees.specs.Jobs.{models_of_jobs}
use Rattle.dual_bank.specs.Banked.{job_of_banked}
use Rattle.dual_bank.proofs.banking.banked_jobs.Given as goal

-- the jobs so far, with those of the jobs left, are those of all
abbrev pub invariant-loop-job : goal.invariant-loop-job
invariant-loop-job l = models_of_jobs l.made.items ++ map (job_of_banked l.k) (models_of_jobs (drop l.job-index l.jobs)) ≡ map (job_of_banked l.k) (models_of_jobs l.jobs)
