-- What the words of an image do, in the words of a symbolic run.
use Rattle.std.specs.Prelude.{ℕ, ◌≡◌, List, length, Some, slice_get, slice_index}
use Rattle.net_model.specs.declared.hardware.Netlist.{Netlist}
use Rattle.sym_expr.specs.declared.pool.Node.{Node}
use Rattle.sym_run.specs.declared.moves.Move.{Move}
use Rattle.sym_run.specs.declared.moves.Move.TheVariants.{Keep as Stay, Write as Put, WriteAt as PutAt}
use Rattle.sym_run.specs.declared.walk.Coded.{Coded}
use Rattle.sym_run.specs.Moves.{AreWithin}
use Rattle.sym_run.specs.Walks.{IsCodedAt}
use Rattle.word_moves.specs.declared.moves.StorageMove.{StorageMove}
use Rattle.word_moves.specs.declared.moves.StorageMove.TheVariants.{Keep, Write, WriteAt}

abbrev pub move_of : StorageMove → Move
move_of Keep = Stay
move_of (Write value) = Put value
move_of (WriteAt addr value) = PutAt addr value

-- a word in a pool
pub record IsWordOf (netlist : Netlist) (pool : List Node) (word : ℕ) (coded : Coded) : Type 0 where
  pub is : IsCodedAt netlist pool word coded
  pub within : AreWithin (length pool) coded.moves

-- the words of an image, as many as are there
abbrev pub AreWordsOf : Netlist → List Node → List ℕ → List Coded → Type 0
AreWordsOf netlist pool words code = (a : ℕ) (coded : Coded) → slice_get code a ≡ Some coded → IsWordOf netlist pool (slice_index words a) coded
