-- How many checkpoints are ahead of a run.
use Rattle.std.proofs.Common.{ℕ, suc, ◌≡◌, ap, refl, ◌∙◌, length}
use Rattle.src_model.specs.declared.checkpoint.Checkpoint.{Checkpoint}
use Rattle.src_model.specs.declared.checkpoint.Checkpoint.TheVariants.{End}
use Rattle.src_eval.specs.declared.machine.Machine.{Machine}
use Rattle.src_eval.specs.Steps.{ahead, ahead_of, shown}
use Rattle.src_eval.specs.Inner.Steps.{Passes}

-- none, where none is asked for
pub none_ahead : (m : Machine) → length (ahead_of m 0) ≡ 0
unfolding ahead
none_ahead m = refl

-- one, where the next is the end
pub end_ahead : (old new : Machine) (label : Checkpoint) → Passes old label new → label ≡ End → (more left : ℕ) → left ≡ suc more → length (ahead_of old left) ≡ 1
end_ahead old new label passes is more left e =
    rw e (ap length (passes more) ∙ ap (λ (l : Checkpoint). length (shown l new.store.cells (ahead_of new more))) is)
