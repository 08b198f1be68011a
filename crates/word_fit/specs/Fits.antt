-- Which words fit a group of steps, over the netlist alone. A word *fits* a group of steps with a
-- set of live registers where it doesn't clash, does each step's transfer with its setting, steps,
-- keeps the data memory unless a step writes it, keeps the register file unless a step writes it,
-- and keeps each live register that no step writes (`FitsGroup`). A jump or branch word does its
-- transfer with its setting and keeps the data memory (`FitsJump`); it needn't keep the file,
-- since nothing in it is live behind a test. It may be asked to keep registers (`FitsTurning`).
-- The least such word (`IsLeastFit`). Over the netlist alone: no id, set or diagram occurs in it.
use Rattle.std.specs.Prelude.{ℕ, ◌≡◌, ◌≢◌, ◌≤◌, ◌||◌, ◌&&◌, Bool, true, false, List, [], ◌∷◌, slice_get, bit_and}
use Rattle.net_model.specs.declared.hardware.Netlist.{Netlist}
use Rattle.net_model.specs.declared.hardware.Space.{Space}
use Rattle.net_model.specs.Nets.{IsRegister, file_place}
use Rattle.net_model.specs.Exprs.{keep}
use Rattle.net_model.specs.Transfers.{IsClean, Steps, memory_transfer, transfer_at, space_transfer}
use Rattle.net_model.specs.Fields.{transfer_fields}
use Rattle.form_model.specs.Effects.{Operation, is_store, same_space, space_in}
use Rattle.form_model.specs.Live.{Regs, group_writes}

-- the word does the transfer, which is one other than to keep and says which cells its storage has,
-- with its setting: the word's bits in the fields of the transfer
pub record Does (netlist : Netlist) (word : ℕ) (d : Operation) : Type 0 where
  pub changes : d.move ≢ keep
  pub gives : transfer_at netlist word d.storage ≡ d.move
  pub space : d.space ≡ space_in (file_place netlist.storages) d.storage
  pub setting : bit_and word (transfer_fields d.move) ≡ d.setting

-- it does the transfer of each step
abbrev pub DoesAll : {A : Type 0} → Netlist → (A → Operation) → ℕ → List A → Type 0
DoesAll netlist m word [] = Unit {0}
DoesAll netlist m word (x ∷ g) = Does netlist word (m x) × DoesAll netlist m word g

-- a step writes the data memory, or the register file
abbrev pub stores_in : Space → Operation → Bool
stores_in space d = is_store d.move && same_space d.space space

-- so does a step of the group
abbrev pub group_stores : {A : Type 0} → Space → (A → Operation) → List A → Bool
group_stores space m [] = false
group_stores space m (x ∷ g) = stores_in space (m x) || group_stores space m g

-- the word does each step's transfer with its setting, steps, keeps the data memory unless a step
-- writes it, keeps the register file unless a step writes it, keeps each live register that isn't a
-- destination, and doesn't clash
pub record FitsGroup {A : Type 0} (netlist : Netlist) (m : A → Operation) (word : ℕ) (g : List A)
    (live : Regs) : Type 0 where
  pub clean : IsClean netlist word
  pub does : DoesAll netlist m word g
  pub steps : Steps netlist word
  pub cells : (space : Space) → group_stores space m g ≡ false → space_transfer netlist space word ≡ keep
  pub registers : (r : ℕ) → IsRegister (slice_get netlist.storages r) → live r ≡ true →
      group_writes m g r ≡ false → transfer_at netlist word r ≡ keep

-- the same as a relation of words, groups and live registers
abbrev pub fits_over : {A : Type 0} → Netlist → (A → Operation) → ℕ → List A → Regs → Type 0
fits_over netlist m word g live = FitsGroup netlist m word g live

-- a jump or branch word: it does the transfer with its setting, keeps the data memory, and doesn't
-- clash. The file needn't keep: nothing in it is live behind such a word
pub record FitsJump (netlist : Netlist) (word : ℕ) (d : Operation) : Type 0 where
  pub clean : IsClean netlist word
  pub does : Does netlist word d
  pub memory : memory_transfer netlist word ≡ keep

-- one that keeps these registers, too
pub record FitsTurning (netlist : Netlist) (word : ℕ) (d : Operation) (kept : Regs) : Type 0 where
  pub jump : FitsJump netlist word d
  pub registers : (r : ℕ) → IsRegister (slice_get netlist.storages r) → kept r ≡ true → transfer_at netlist word r ≡ keep

-- the least word that fits
pub record IsLeastFit (fits : ℕ → Type 0) (word : ℕ) : Type 0 where
  pub is : fits word
  pub least : (other : ℕ) → fits other → word ≤ other
