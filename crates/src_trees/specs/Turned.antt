-- Flows some tests of which are turned: such a test has its two targets exchanged, and a tree that is
-- 1 where the program's is 0, and 0 where it is 1.
use Rattle.std.specs.Prelude.{ℕ, ◌+◌, ◌≡◌, Bool, false, if◌then◌else◌, List, [], ◌∷◌, map, Some, slice_get}
use Rattle.rec_bits.specs.declared.operator.Op2.TheVariants.{Xor}
use Rattle.net_model.specs.Exprs.{ExprModel, const, bin}
use Rattle.form_model.specs.declared.flow.Flow.{Flow}
use Rattle.form_model.specs.declared.flow.Flow.TheVariants.{Assign, Test, Jump, End}
use Rattle.src_trees.specs.Lowered.{JobModel}

-- which tests are turned, by the numbers of their jobs
abbrev pub Turns : Type 0
Turns = ℕ → Bool

-- a place of a flow, and a flow, where these tests have their targets exchanged
abbrev pub turned_place : Turns → Flow → Flow
turned_place turned (Assign tree) = Assign tree
turned_place turned (Test tree when_one when_zero) =
    if turned tree then Test tree when_zero when_one else Test tree when_one when_zero
turned_place turned (Jump to) = Jump to
turned_place turned End = End

abbrev pub turned_flow : Turns → List Flow → List Flow
turned_flow turned flow = map (turned_place turned) flow

-- only tests are turned
abbrev pub TurnsTests : Turns → List Flow → Type 0
TurnsTests turned flow = (at tree : ℕ) → slice_get flow at ≡ Some (Assign tree) → turned tree ≡ false

-- what the tree of a turned test tells of the program's: 1 where it is 0, and 0 where it is 1
abbrev pub turned_back : ExprModel → ExprModel
turned_back t = bin Xor t (const 1 1)

-- a job as the program asks for it
abbrev pub job_of_told : Bool → JobModel → JobModel
job_of_told turned job = record {
  destination = job.destination;
  trees = if turned then map turned_back job.trees else job.trees;
}

-- and all jobs, where the first one has this number
abbrev pub told_from : Turns → ℕ → List JobModel → List JobModel
told_from turned k [] = []
told_from turned k (job ∷ later) = job_of_told (turned k) job ∷ told_from turned (k + 1) later

abbrev pub jobs_of_told : Turns → List JobModel → List JobModel
jobs_of_told turned jobs = told_from turned 0 jobs
