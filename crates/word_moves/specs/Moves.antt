-- What a netlist does under one instruction word, in the ids of a pool.
use Rattle.std.specs.Prelude.{ℕ, ◌≡◌, ◌<◌, List, Some, length, slice_get}
use Rattle.net_model.specs.declared.hardware.Netlist.{Netlist}
use Rattle.net_model.specs.Exprs.{TransferModel, keep, write, write_at}
use Rattle.net_model.specs.Transfers.{clash_at, transfer_at}
use Rattle.sym_expr.specs.declared.pool.Node.{Node}
use Rattle.sym_expr.specs.Pools.{expr_of_id}
use Rattle.word_moves.specs.declared.moves.StorageMove.{StorageMove}
use Rattle.word_moves.specs.declared.moves.StorageMove.TheVariants.{Keep, Write, WriteAt}
use Rattle.word_moves.specs.declared.moves.WordMoves.{WordMoves}

-- the transfer that ids stand for
abbrev pub transfer_in : List Node → StorageMove → TransferModel
transfer_in nodes Keep = keep
transfer_in nodes (Write value) = write (expr_of_id nodes value)
transfer_in nodes (WriteAt addr value) = write_at (expr_of_id nodes addr) (expr_of_id nodes value)

-- they are ids of the pool
abbrev pub IsMoveWithin : List Node → StorageMove → Type 0
IsMoveWithin nodes Keep = Unit {0}
IsMoveWithin nodes (Write value) = value < length nodes
IsMoveWithin nodes (WriteAt addr value) = (addr < length nodes) × (value < length nodes)

-- one for each storage, which is its transfer under the word
pub record AreMoves (netlist : Netlist) (word : ℕ) (nodes : List Node) (moves : List StorageMove) : Type 0 where
  pub long : length moves ≡ length netlist.storages
  pub within : (id : ℕ) (move : StorageMove) → slice_get moves id ≡ Some move → IsMoveWithin nodes move
  pub are : (id : ℕ) (move : StorageMove) → slice_get moves id ≡ Some move →
      transfer_in nodes move ≡ transfer_at netlist word id

-- the first clash under the word, and what each storage does
pub record IsWordMoves (netlist : Netlist) (word : ℕ) (nodes : List Node) (found : WordMoves) : Type 0 where
  pub clash : found.clash ≡ clash_at netlist word
  pub moves : AreMoves netlist word nodes found.moves
