-- Checkpoints whose lines fit their room.
use Rattle.std.proofs.Common.{ℕ, ◌^◌, ◌<◌, List, length, drop, get_or, arith}
use Rattle.std.proofs.lemmas.List.{length-drop, length-take}
use Rattle.src_model.specs.declared.checkpoint.Checkpoint.{Checkpoint}
use Rattle.src_model.specs.declared.program.Var.{Var as Declared}
use Rattle.src_model.specs.Meaning.{cell_count}
use Rattle.checkpoint_watch.specs.Rooms.{CheckpointFits, EntryFits}
use Rattle.checkpoint_watch.specs.Texts.{trace_entry, store_from}
use Rattle.checkpoint_watch.proofs.Rooms.{taken_fits, left_fits}

pub entry_fits : (vars : List Declared) (cycle : ℕ) (label : Checkpoint) (address : ℕ) (cells : List ℕ) → cycle < 2 ^ 32 → CheckpointFits label → length cells < 2 ^ 32 → ((k : ℕ) → get_or cells k 0 < 2 ^ 64)
    → EntryFits (trace_entry cycle label (store_from vars address cells))
entry_fits vars cycle label address cells c l few values = record {
  cycle = c;
  label = l;
  few = omega (arith, few, length-take (cell_count vars) (drop address cells), length-drop address cells);
  values = λ k. taken_fits (cell_count vars) k (drop address cells) (λ j. left_fits address j cells values);
}
