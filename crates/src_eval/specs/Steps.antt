-- The checkpoints that a list of steps passes, and what a run through it keeps.
use Rattle.std.specs.Prelude.{ℕ, zero, suc, List, [], ◌∷◌, length, slice_get, Option, Some, None}
use Rattle.src_model.specs.declared.checkpoint.Checkpoint.{Checkpoint}
use Rattle.src_model.specs.declared.checkpoint.Checkpoint.TheVariants.{At, End}
use Rattle.src_model.specs.Ways.{Passed, Onward, pass, choose, finish}
use Rattle.src_eval.specs.declared.machine.Step.{Step}
use Rattle.src_eval.specs.declared.machine.Step.TheVariants.{Assign, Test}
use Rattle.src_eval.specs.declared.machine.Machine.{Machine}
use Rattle.src_eval.specs.Formulas.{stored, met}

-- a step, with the ways on from the steps behind an assignment and behind a test; past the last
-- step is the end
abbrev pub act_at : Option Step → ℕ → (ℕ → Onward) → (ℕ → Onward) → Onward
act_at None at go later more cells = finish more cells
act_at (Some (Assign first index value next)) at go later more cells = go next more (stored first index value cells)
act_at (Some (Test test on_true on_false)) at go later more cells =
    pass (At at) (choose (met test) (later on_true) (later on_false)) more cells

-- the way on from a step, of which so many are enough to come to a checkpoint
abbrev pub go : List Step → (ℕ → Onward) → ℕ → ℕ → Onward
go steps later zero at more cells = []
go steps later (suc n) at more cells = act_at (slice_get steps at) at (go steps later n) later more cells

-- the first checkpoints that are passed from a step on, as many as are asked for: no step is done
-- twice before a checkpoint
unfoldable pub ahead : List Step → ℕ → ℕ → List ℕ → List Passed
ahead steps zero at cells = []
ahead steps (suc more) at cells =
    go steps (λ next asked after. ahead steps more next after) (suc (length steps)) at (suc more) cells

abbrev pub ahead_of : Machine → ℕ → List Passed
ahead_of m more = ahead m.steps more m.at m.store.cells

-- ---- what a run answers

-- a checkpoint, and what comes after it: nothing after the end
abbrev pub shown : Checkpoint → List ℕ → List Passed → List Passed
shown (At tree) cells later = record { label = At tree; cells = cells } ∷ later
shown End cells later = record { label = End; cells = cells } ∷ []
