-- The checkpoints that a list of steps passes, and what a run through it keeps.
use Rattle.std.specs.Prelude.{ℕ, suc, ◌^◌, ◌<◌, ◌≤◌, ◌≡◌, ◌||◌, nat_lt, Bool, true, false, IsTrue, List, [], ◌∷◌, length, slice_index, slice_get, Option, Some, None}
use Rattle.src_model.specs.declared.checkpoint.Checkpoint.{Checkpoint}
use Rattle.src_model.specs.declared.checkpoint.Checkpoint.TheVariants.{End}
use Rattle.src_eval.specs.declared.machine.Step.{Step}
use Rattle.src_eval.specs.declared.machine.Step.TheVariants.{Assign, Test}
use Rattle.src_eval.specs.declared.machine.Machine.{Machine}
use Rattle.src_eval.specs.Formulas.{FormulaFits, FitsComparison}
use Rattle.src_eval.specs.Steps.{ahead, ahead_of, shown}

-- ---- what a run keeps

abbrev pub is_test : Option Step → Bool
is_test (Some (Test test on_true on_false)) = true
is_test _ = false

-- an assignment is followed by a later step, or by a test
abbrev pub FitsStep : ℕ → List Step → ℕ → Option Step → Type 0
FitsStep word steps at None = Unit {0}
FitsStep word steps at (Some (Assign first index value next)) =
    FormulaFits word word index × FormulaFits word word value
    × IsTrue (nat_lt at next || is_test (slice_get steps next))
FitsStep word steps at (Some (Test test on_true on_false)) = FitsComparison word test

abbrev pub StepsFit : ℕ → List Step → Type 0
StepsFit word steps = (at : ℕ) → FitsStep word steps at (slice_get steps at)

pub record MachineFits (m : Machine) : Type 0 where
  pub steps_fit : StepsFit m.typed.now.width m.steps
  pub few : length m.steps ≤ 65536
  pub below : (cell : ℕ) → slice_index m.store.cells cell < 2 ^ m.typed.now.width

-- ---- what a run answers

-- from the one, a run passes a checkpoint to the other
abbrev pub Passes : Machine → Checkpoint → Machine → Type 0
Passes old label new = (more : ℕ) → ahead_of old (suc more) ≡ shown label new.store.cells (ahead_of new more)

-- the end is all that is ahead
abbrev pub Ended : Machine → Type 0
Ended m = (more : ℕ) → ahead_of m (suc more) ≡ record { label = End; cells = m.store.cells } ∷ []

-- the other run has the same checkpoints ahead
abbrev pub SameAhead : Machine → Machine → Type 0
SameAhead old new = (more : ℕ) → ahead_of new more ≡ ahead_of old more

-- the program is the same
abbrev pub SameSteps : Machine → Machine → Type 0
SameSteps old new = (new.typed.now ≡ old.typed.now) × (new.steps ≡ old.steps)
