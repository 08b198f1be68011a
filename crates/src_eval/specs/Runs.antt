-- What a caller sees of a run, and how a run goes on.
use Rattle.std.specs.Prelude.{ℕ, suc, ◌≡◌, List, [], ◌∷◌}
use Rattle.src_model.specs.declared.checkpoint.Checkpoint.{Checkpoint}
use Rattle.src_model.specs.declared.checkpoint.Checkpoint.TheVariants.{End}
use Rattle.src_model.specs.declared.store.Store.{Store}
use Rattle.src_model.specs.Ways.{Passed}
use Rattle.src_eval.specs.declared.run.Runner.{Runner}
use Rattle.src_eval.specs.Steps.{ahead_of, shown}

-- the checkpoints that a run has ahead: the first so many of them, or all where there are fewer
abbrev pub ahead_in : Runner → ℕ → List Passed
ahead_in run = ahead_of run.machine

-- what its variables hold
abbrev pub runner_store : Runner → Store
runner_store run = run.machine.store

-- from the one, a run passes a checkpoint to the other
abbrev pub Advances : Runner → Checkpoint → Runner → Type 0
Advances old label new = (more : ℕ) → ahead_in old (suc more) ≡ shown label (runner_store new).cells (ahead_in new more)

-- the end is all that is ahead
abbrev pub HasEnded : Runner → Type 0
HasEnded run = (more : ℕ) → ahead_in run (suc more) ≡ record { label = End; cells = (runner_store run).cells } ∷ []
