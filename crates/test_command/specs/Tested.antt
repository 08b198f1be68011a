-- What the run of a self-test leaves. Words are *right* where they are made for the netlist, the
-- run without a fault doesn't clash, and each tested candidate's cell then has the value of its
-- tree in the first state.
use Rattle.std.specs.Prelude.{ℕ, ◌≡◌, List, [], ◌∷◌, slice_index, Option, Some, None}
use Rattle.net_model.specs.declared.hardware.Netlist.{Netlist}
use Rattle.net_model.specs.declared.states.State.{State}
use Rattle.net_model.specs.Meaning.{mean}
use Rattle.net_model.specs.Exprs.{ExprModel}
use Rattle.form_model.specs.Covers.{JobCoverModel}
use Rattle.form_model.specs.Forms.{DestinationModel, cell}
use Rattle.src_trees.specs.Lowered.{JobModel}
use Rattle.fault_sim.specs.Reports.{IsGoodRun}
use Rattle.self_test.specs.Cells.{test_jobs}
use Rattle.test_run.specs.Starts.{test_start}
use Rattle.test_code.specs.Tried.{IsMadeFor}

-- the cell of a job holds the value that its tree has in a state
abbrev pub HoldsValue : State → List ℕ → DestinationModel → List ExprModel → Type 0
HoldsValue s cells (cell out) (tree ∷ []) = slice_index cells out ≡ mean tree s 0
HoldsValue s cells destination trees = ⊥

-- so do those of all jobs that have a cover
abbrev pub HoldValues : State → List ℕ → List JobModel → List (Option JobCoverModel) → Type 0
HoldValues s cells [] [] = Unit {0}
HoldValues s cells (job ∷ jobs) (None ∷ tried) = HoldValues s cells jobs tried
HoldValues s cells (job ∷ jobs) (Some choice ∷ tried) =
    HoldsValue s cells job.destination job.trees × HoldValues s cells jobs tried
HoldValues s cells _ _ = ⊥

-- the words are made for the netlist, and their run without a fault doesn't clash and leaves the
-- value of each tested candidate's tree in its cell
pub record IsRightTest (netlist : Netlist) (tried : List (Option JobCoverModel)) (words good : List ℕ) : Type 0 where
  pub made : IsMadeFor netlist tried words
  pub runs : IsGoodRun netlist words (test_start netlist) good
  pub values : HoldValues (test_start netlist) good (test_jobs netlist made.all made.patterns) tried
