-- The steps of jobs one after the other, and what they leave.
use Rattle.std.specs.Prelude.{ℕ, ◌≡◌, List, [], ◌∷◌, length, drop}
use Rattle.net_model.specs.declared.states.State.{State}
use Rattle.form_model.specs.Covers.{StockModel, JobCoverModel}
use Rattle.src_trees.specs.Lowered.{JobModel}
use Rattle.src_trees.specs.Doing.{all_done}
use Rattle.right_code.specs.Jobs.{HasOne, IsCovered}

-- each of these jobs has one
abbrev pub AreCovered : StockModel → List JobModel → List JobCoverModel → Type 0
AreCovered stock [] [] = Unit {0}
AreCovered stock (job ∷ jobs) (choice ∷ choices) =
    IsCovered stock job choice × HasOne job.destination job.trees
    × AreCovered stock jobs choices
AreCovered stock _ _ = ⊥

-- t is what jobs leave from s, but for the cells below an address, the registers and the file
pub record LeavesDone (temps : ℕ) (jobs : List JobModel) (s t : State) : Type 0 where
  pub same : drop temps (all_done jobs s.cells) ≡ drop temps t.cells
  pub long : length (all_done jobs s.cells) ≡ length t.cells
  pub regs : length t.regs ≡ length s.regs
  pub file : length t.file ≡ length s.file
