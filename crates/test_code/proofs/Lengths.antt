-- The words of a self-test are at most what its covers cost.
use Rattle.std.proofs.Common.{ℕ, ◌+◌, ◌≤◌, List, [], ◌∷◌, Option, Some, None, length, ap, length-append, arith}
use Rattle.std.specs.List.{AllByRecursion}
use Rattle.net_model.specs.declared.hardware.Netlist.{Netlist}
use Rattle.net_model.specs.Patterns.{Pattern}
use Rattle.net_model.specs.Exprs.{ExprModel}
use Rattle.form_model.specs.Covers.{JobCoverModel, Covers, StockModel, job_cost}
use Rattle.form_model.specs.Forms.{FormModel}
use Rattle.emit_seq.specs.Leaves.{IsOfJob}
use Rattle.src_trees.specs.Lowered.{JobModel}
use Rattle.code_gen.proofs.Lengths.{job_long}
use Rattle.code_gen.proofs.Packing.{groups_few}
use Rattle.self_test.specs.Cells.{test_values, test_jobs, jobs_from}
use Rattle.self_test.specs.Trees.{operands, widths_of}
use Rattle.test_code.specs.Tried.{AreJobWords, AreTried, AreWordsOf, IsMadeFor, cost_sum, test_stock}

-- all jobs have a destination of jobs
abbrev AreOfJobs : List JobModel → Type 0
AreOfJobs jobs = AllByRecursion (λ (job : JobModel). IsOfJob job.destination) jobs

module _ (netlist : Netlist) (patterns : List Pattern) (stock : StockModel) where
  job_few : (job : JobModel) (choice : JobCoverModel) (words : List ℕ) → IsOfJob job.destination → Covers stock job.destination job.trees choice → AreJobWords netlist patterns stock job choice words → length words ≤ job_cost job.destination choice.cover
  job_few job choice words goes covers h =
      let long = h.least.long in
      let few = groups_few h.packing in
      let steps = job_long stock job choice goes covers in
      omega (arith, long, few, steps)

  pub words_few : (jobs : List JobModel) (tried : List (Option JobCoverModel)) (words : List ℕ) → AreOfJobs jobs → AreTried stock jobs tried → AreWordsOf netlist patterns stock jobs tried words → length words ≤ cost_sum jobs tried
  words_few [] [] words of_jobs t h = let e = ap length h in omega (arith, e)
  words_few [] (choice ∷ tried) words of_jobs t h = absurd t
  words_few (job ∷ jobs) [] words of_jobs t h = absurd t
  words_few (job ∷ jobs) (None ∷ tried) words of_jobs t h = words_few jobs tried words of_jobs.1 t.1 h
  words_few (job ∷ jobs) (Some choice ∷ tried) words of_jobs t h =
      let first = job_few job choice h.0 of_jobs.0 t.0.covers h.2 in
      let rest = words_few jobs tried h.1 of_jobs.1 t.1 h.3 in
      let e = ap length h.4 in
      let l = length-append h.0 h.1 in
      omega (arith, first, rest, e, l)

-- those of a self-test
cells_of : (netlist : Netlist) (at out : ℕ) (values : List ExprModel) → AreOfJobs (jobs_from (widths_of netlist) at out values)
cells_of netlist at out [] = tt
cells_of netlist at out (value ∷ values) = (tt, cells_of netlist (at + operands value) (out + 1) values)

pub test_of_jobs : (netlist : Netlist) (forms : List FormModel) (patterns : List Pattern) → AreOfJobs (test_jobs netlist forms patterns)
test_of_jobs netlist forms patterns = cells_of netlist _ _ (test_values netlist forms patterns)

pub made_few : (netlist : Netlist) (tried : List (Option JobCoverModel)) (words : List ℕ) (made : IsMadeFor netlist tried words) → length words ≤ cost_sum (test_jobs netlist made.all made.patterns) tried
made_few netlist tried words made =
    words_few netlist made.patterns (test_stock netlist made.all made.patterns) (test_jobs netlist made.all made.patterns) tried words (test_of_jobs netlist made.all made.patterns) made.trials made.code
