-- What moves of a pool's ids tell of a word.
use Rattle.std.specs.Prelude.{ℕ, ◌≡◌, Bool, true, false, List, Option, Some, None}
use Rattle.net_model.specs.Exprs.{TransferModel, keep}
use Rattle.sym_expr.specs.declared.pool.Node.{Node}
use Rattle.sym_expr.specs.Pools.{expr_of_id}
use Rattle.word_moves.specs.Moves.{transfer_in}
use Rattle.word_moves.specs.declared.moves.StorageMove.{StorageMove}
use Rattle.word_moves.specs.declared.moves.StorageMove.TheVariants.{Keep, Write, WriteAt}
use Rattle.check_command.specs.EndWords.{plain_address}

-- the transfer that is found of a storage; one that isn't there keeps
abbrev pub transfer_found : List Node → Option StorageMove → TransferModel
transfer_found nodes None = keep
transfer_found nodes (Some move) = transfer_in nodes move

-- the address that a register takes, where it is told
abbrev pub told_address : List Node → ℕ → Option StorageMove → Option ℕ
told_address nodes word None = None
told_address nodes word (Some Keep) = None
told_address nodes word (Some (Write value)) = plain_address word (expr_of_id nodes value)
told_address nodes word (Some (WriteAt addr value)) = None

-- whether a storage stays as it is
abbrev pub is_kept : Option StorageMove → Bool
is_kept None = true
is_kept (Some Keep) = true
is_kept (Some (Write value)) = false
is_kept (Some (WriteAt addr value)) = false

-- nothing clashes, the program counter's move tells this address, and the memory's keeps it
pub record AreEnding (nodes : List Node) (word address : ℕ) (clash : Option ℕ) (counter memory : Option StorageMove) : Type 0 where
  pub clean : clash ≡ None
  pub goes : told_address nodes word counter ≡ Some address
  pub keeps : is_kept memory ≡ true
