use Rattle.std.proofs.Common.{◌≡◌, ℕ, Some, length, slice_get}
use Rattle.net_model.specs.Transfers.{transfer_at}
use Rattle.word_moves.specs.declared.moves.StorageMove.{StorageMove}
use Rattle.word_moves.specs.Moves.{IsMoveWithin, transfer_in}
use Rattle.word_moves.proofs.moves.moves_of.Given as goal

abbrev pub invariant-loop-id : goal.invariant-loop-id
invariant-loop-id l = record {
  long : length l.moves ≡ l.id;
  within : (id : ℕ) (move : StorageMove) → slice_get l.moves id ≡ Some move → IsMoveWithin l.pool move;
  are : (id : ℕ) (move : StorageMove) → slice_get l.moves id ≡ Some move → transfer_in l.pool move ≡ transfer_at l.checked.netlist l.at.word id;
}
