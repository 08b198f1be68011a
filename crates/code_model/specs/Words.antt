-- What a word does to the memory, the mode and the program counter, whatever the state.
use Rattle.std.specs.Prelude.{ℕ, Bool, true, false, ◌≡◌, ◌&&◌, Option, Some, None, slice_get}
use Rattle.net_model.specs.declared.hardware.Netlist.{Netlist}
use Rattle.net_model.specs.Exprs.{ExprModel, word, reg, const, read, un, bin, slice, cat, zext, sext, select, keep, write}
use Rattle.net_model.specs.Symbolic.{no_state}
use Rattle.net_model.specs.Meaning.{mean}
use Rattle.net_model.specs.Nets.{IsRegister}
use Rattle.net_model.specs.Transfers.{IsClean, counter_transfer, memory_transfer, transfer_at}

-- an expression without registers and reads
abbrev pub is_fixed : ExprModel → Bool
is_fixed (word w) = true
is_fixed (reg r w) = false
is_fixed (const w v) = true
is_fixed (read space a w) = false
is_fixed (un o a) = is_fixed a
is_fixed (bin o a b) = is_fixed a && is_fixed b
is_fixed (slice a hi lo) = is_fixed a
is_fixed (cat a b) = is_fixed a && is_fixed b
is_fixed (zext a w) = is_fixed a
is_fixed (sext a w) = is_fixed a
is_fixed (select c a b) = is_fixed c && (is_fixed a && is_fixed b)

-- an expression that has this value under a word, whatever the state
pub record IsFixedAt (i : ℕ) (e : ExprModel) (value : ℕ) : Type 0 where
  pub fixed : is_fixed e ≡ true
  pub is : mean e no_state i ≡ value

-- the word makes the program counter this address
pub record DoesJump (netlist : Netlist) (i address : ℕ) : Type 0 where
  pub to_term : ExprModel
  pub move : counter_transfer netlist i ≡ write to_term
  pub to_is : IsFixedAt i to_term address

pub record KeepsMemory (netlist : Netlist) (i : ℕ) : Type 0 where
  pub move : memory_transfer netlist i ≡ keep

-- the word keeps the mode, where some storage holds one
abbrev pub KeepsMode : Option ℕ → Netlist → ℕ → Type 0
KeepsMode None netlist i = Unit {0}
KeepsMode (Some mode) netlist i =
    IsRegister (slice_get netlist.storages mode) × (transfer_at netlist i mode ≡ keep)

-- a word that goes to an address and keeps the memory: a jump, and the end, which goes to itself
pub record DoesGoto (netlist : Netlist) (i address : ℕ) : Type 0 where
  pub clean : IsClean netlist i
  pub jump : DoesJump netlist i address
  pub keeps : KeepsMemory netlist i
