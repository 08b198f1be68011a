-- Transfers with sets of words that give them, as they are collected.
use Rattle.std.specs.Prelude.{◌≡◌, ◌↔◌, ℕ, ◌^◌, ◌<◌, Bool, true, List, Option, None, Some}
use Rattle.net_model.specs.declared.hardware.Netlist.{Netlist}
use Rattle.net_model.specs.Patterns.{IsWordOf}
use Rattle.net_model.specs.Exprs.{TransferModel, write, write_at}
use Rattle.sym_expr.specs.declared.pool.Node.{Node}
use Rattle.sym_expr.specs.Pools.{expr_of_id}

-- ---- entries

-- the transfer of these ids: a write of a register, or one at an address
abbrev pub ids_transfer : List Node → Option ℕ → ℕ → TransferModel
ids_transfer pool None value = write (expr_of_id pool value)
ids_transfer pool (Some addr) value = write_at (expr_of_id pool addr) (expr_of_id pool value)

-- addresses and values are ids of a pool of this size
abbrev pub IsAddrKnown : ℕ → Option ℕ → Type 0
IsAddrKnown size None = Unit {0}
IsAddrKnown size (Some addr) = addr < size

-- ---- whole sets

-- the words of f are exactly those that give a storage a transfer
abbrev pub IsWordsOf : Netlist → ℕ → ℕ → TransferModel → (ℕ → Bool) → Type 0
IsWordsOf netlist bits storage move f =
    (word : ℕ) → word < 2 ^ bits → (f word ≡ true) ↔ IsWordOf netlist (record { storage = storage; move = move }) word
