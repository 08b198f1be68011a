-- The checkpoints that a program passes, by ways on: what it passes from here, given how many
-- checkpoints are still asked for and the variables' cells. A program's parts are ways on after
-- each other; only a loop counts, and its count is what is still asked for.
use Rattle.std.specs.Prelude.{ℕ, zero, suc, Bool, List, [], ◌∷◌, if◌then◌else◌}
use Rattle.src_model.specs.declared.checkpoint.Checkpoint.{Checkpoint}
use Rattle.src_model.specs.declared.checkpoint.Checkpoint.TheVariants.{End}

-- a checkpoint that was passed: its label, and the cells at that moment
pub record Passed : Type 0 where
  pub label : Checkpoint
  pub cells : List ℕ

abbrev pub Onward : Type 0
Onward = ℕ → List ℕ → List Passed

-- a checkpoint, and what comes after it; nothing where no more are asked for
abbrev pub pass : Checkpoint → Onward → Onward
pass label next zero cells = []
pass label next (suc more) cells = record { label = label; cells = cells } ∷ next more cells

-- one of two ways on
abbrev pub choose : (List ℕ → Bool) → Onward → Onward → Onward
choose test taken other more cells = if test cells then taken more cells else other more cells

-- a loop of at most so many turns; each passes a checkpoint, so as many turns as checkpoints are
-- enough
abbrev pub turns : ℕ → Checkpoint → (List ℕ → Bool) → (Onward → Onward) → Onward → Onward
turns zero label test body next more cells = []
turns (suc n) label test body next more cells =
    pass label (choose test (body (turns n label test body next)) next) more cells

-- a loop: while the test holds, its body and then the loop again
abbrev pub loop : Checkpoint → (List ℕ → Bool) → (Onward → Onward) → Onward → Onward
loop label test body next more cells = turns more label test body next more cells

-- the end of the program: one checkpoint
abbrev pub finish : Onward
finish = pass End (λ more cells. [])
