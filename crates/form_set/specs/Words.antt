-- The words that do a pattern's transfer and leave other storages alone. A setting is a choice of
-- values for instruction bits. Words of a pattern that step, and keep the data memory and the
-- register file, unless that is what the pattern writes, and these registers; `CanKeep`, every
-- setting has one; `CanJump`, every setting has a word that keeps the data memory; `CanTurn`, one
-- that keeps the mode, too. The registers that are kept, taken in order of declaration, each where
-- every setting still has a word; the clobbers are what the pattern writes and the registers that
-- aren't kept. Of single words all of it: no diagram occurs in a definition.
use Rattle.std.specs.Prelude.{◌≡◌, ◌≢◌, ◌↔◌, ℕ, zero, suc, ◌^◌, ◌<◌, Bool, true, false, if◌then◌else◌, bit_and, bit_or, bit_xor, List, length, Option, Some, None, slice_get}
use Rattle.std.specs.Int.{bit_at}
use Rattle.bit_bdd.specs.Diagrams.{Diagrams, has_word}
use Rattle.net_model.specs.declared.hardware.Netlist.{Netlist}
use Rattle.net_model.specs.declared.hardware.Space.TheVariants.{File as InFile}
use Rattle.net_model.specs.declared.hardware.Storage.{Storage}
use Rattle.net_model.specs.declared.hardware.Storage.TheVariants.{Register, Memory, File}
use Rattle.net_model.specs.Nets.{IsRegister, memory_id, place_in}
use Rattle.net_model.specs.Patterns.{IsWordOf, Pattern}
use Rattle.net_model.specs.Exprs.{keep}
use Rattle.net_model.specs.Transfers.{Steps, memory_transfer, transfer_at, space_transfer}
use Rattle.net_model.specs.Fields.{transfer_fields}
use Rattle.form_set.specs.Static.{is_file_at}

-- ---- settings

-- values of these instruction bits, in their places
abbrev pub IsSetting : ℕ → ℕ → Type 0
IsSetting fields setting = bit_and setting fields ≡ setting

-- for every setting there is a word that has these bits and of which P holds
abbrev pub ForEachSetting : ℕ → (ℕ → Type 0) → Type 0
ForEachSetting fields P =
    (setting : ℕ) → IsSetting fields setting → (word : ℕ) × (bit_and word fields ≡ setting) × P word

-- ---- words that keep

-- the word is in the pattern's set, steps, keeps the data memory and the register file unless that
-- one is the pattern's storage, and keeps each register of a set
pub record KeepsOthers (netlist : Netlist) (pattern : Pattern) (kept : ℕ) (word : ℕ) : Type 0 where
  pub given : IsWordOf netlist pattern word
  pub steps : Steps netlist word
  pub memory : pattern.storage ≢ memory_id netlist.storages → memory_transfer netlist word ≡ keep
  pub file : pattern.storage ≢ place_in InFile netlist.storages → space_transfer netlist InFile word ≡ keep
  pub registers : (r : ℕ) → bit_at kept r ≡ 1 → transfer_at netlist word r ≡ keep

-- for every setting there is such a word
abbrev pub CanKeep : Netlist → Pattern → ℕ → Type 0
CanKeep netlist pattern kept = ForEachSetting (transfer_fields pattern.move) (KeepsOthers netlist pattern kept)

-- the word is in the pattern's set and keeps the data memory
pub record WordKeepsMemory (netlist : Netlist) (pattern : Pattern) (word : ℕ) : Type 0 where
  pub given : IsWordOf netlist pattern word
  pub memory : memory_transfer netlist word ≡ keep

-- what a jump or a branch asks for
abbrev pub CanJump : Netlist → Pattern → Type 0
CanJump netlist pattern = ForEachSetting (transfer_fields pattern.move) (WordKeepsMemory netlist pattern)

-- the word is in the pattern's set and keeps the data memory and one register, the mode
pub record WordKeepsBoth (netlist : Netlist) (pattern : Pattern) (mode : ℕ) (word : ℕ) : Type 0 where
  pub given : IsWordOf netlist pattern word
  pub memory : memory_transfer netlist word ≡ keep
  pub special : transfer_at netlist word mode ≡ keep

-- what a jump or a branch asks for that keeps the mode
abbrev pub CanTurn : Netlist → Pattern → ℕ → Type 0
CanTurn netlist pattern mode = ForEachSetting (transfer_fields pattern.move) (WordKeepsBoth netlist pattern mode)

abbrev pub TurnsAt : Netlist → Option Pattern → ℕ → Type 0
TurnsAt netlist None mode = ⊥
TurnsAt netlist (Some pattern) mode = CanTurn netlist pattern mode

-- ---- the clobbers

-- the same as IsRegister, computed
abbrev pub is_register_storage : Option Storage → Bool
is_register_storage None = false
is_register_storage (Some (Register name width input when)) = true
is_register_storage (Some (Memory cells)) = false
is_register_storage (Some (File cells)) = false

-- a set with one more
abbrev pub with : ℕ → ℕ → ℕ
with set r = bit_or set (2 ^ r)

-- the registers below a number
abbrev pub registers_below : List Storage → ℕ → ℕ
registers_below storages zero = 0
registers_below storages (suc n) =
    if is_register_storage (slice_get storages n) then with (registers_below storages n) n
    else registers_below storages n

abbrev pub all_registers : List Storage → ℕ
all_registers storages = registers_below storages (length storages)

-- a register joins those that must be kept where every setting still has a word that keeps them
-- all; a memory and a file don't
pub data Joins (netlist : Netlist) (pattern : Pattern) (id before after : ℕ) : Type 0 where
  joins : IsRegister (slice_get netlist.storages id) → CanKeep netlist pattern (with before id) →
      after ≡ with before id → Joins netlist pattern id before after
  fails : IsRegister (slice_get netlist.storages id) →
      (CanKeep netlist pattern (with before id) → ⊥) → after ≡ before →
      Joins netlist pattern id before after
  none : (IsRegister (slice_get netlist.storages id) → ⊥) → after ≡ before → Joins netlist pattern id before after

-- those that must be kept, once the storages below a number were taken in order of declaration
abbrev pub AreKept : Netlist → Pattern → ℕ → ℕ → Type 0
AreKept netlist pattern zero kept = kept ≡ 0
AreKept netlist pattern (suc n) kept =
    (before : ℕ) × AreKept netlist pattern n before × Joins netlist pattern n before kept

-- the set of a pattern's storage; the file is in no set of registers
abbrev pub own_storage : Netlist → ℕ → ℕ
own_storage netlist storage = if is_file_at netlist storage then 0 else 2 ^ storage

-- the pattern's storage unless it is the file, and the registers that didn't join
pub record AreClobbers (netlist : Netlist) (pattern : Pattern) (clobbers : ℕ) : Type 0 where
  pub kept : ℕ
  pub are : AreKept netlist pattern (length netlist.storages) kept
  pub is : clobbers ≡ bit_or (own_storage netlist pattern.storage) (bit_xor (all_registers netlist.storages) kept)

-- ---- decided by diagrams

-- the words of a set are those of which P holds
pub record IsSetOf (book : Diagrams) (P : ℕ → Type 0) (set : ℕ) : Type 0 where
  pub within : set < length book.nodes
  pub words : (word : ℕ) → word < 2 ^ book.bits → (has_word book set word ≡ true) ↔ P word
