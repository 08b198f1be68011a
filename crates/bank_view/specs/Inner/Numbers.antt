-- The numbers in a view, as the code keeps them.
use Rattle.std.specs.Prelude.{◌≡◌, ◌≤◌, ℕ, suc, ◌+◌, ◌==◌, if◌then◌else◌, List, [], ◌∷◌, Option, Some, None, slice_get}
use Rattle.net_model.specs.declared.hardware.Storage.{Storage}
use Rattle.net_model.specs.declared.hardware.Netlist.{Netlist}
use Rattle.net_model.specs.Nets.{memory_id}
use Rattle.bank_view.specs.declared.slot.Slot.{Slot}
use Rattle.bank_view.specs.declared.slot.Slot.TheVariants.{Kept, MemoryWrite, BankWrite}
use Rattle.bank_view.specs.Banks.{bank_place, others}
use Rattle.bank_view.specs.declared.views.Numbers.{Numbers}
use Rattle.bank_view.specs.Views.{added_before, joined, net_number, numbering_of, slot_size}

abbrev pub number_from : ℕ → Option ℕ → ℕ
number_from past None = past
number_from past (Some number) = number

-- the number in the view of a net
abbrev pub number_in : Numbers → ℕ → ℕ
number_in numbers n = number_from numbers.past (slice_get numbers.nets n)

-- those of the nets of these slots, the first of which begins at this number
abbrev pub numbers_from : Netlist → ℕ → List Slot → List ℕ
numbers_from d at [] = []
numbers_from d at (Kept n name ∷ slots) =
    (at + added_before d (slice_get d.nets n)) ∷ numbers_from d (at + slot_size d (Kept n name)) slots
numbers_from d at (MemoryWrite ∷ slots) = numbers_from d (at + slot_size d MemoryWrite) slots
numbers_from d at (BankWrite ∷ slots) = numbers_from d (at + slot_size d BankWrite) slots

-- how many nets there are for slots
abbrev pub total : Netlist → List Slot → ℕ
total d [] = 0
total d (slot ∷ slots) = slot_size d slot + total d slots

-- they are those of the view, of at most 1,000 nets
pub record AreNumbers (d : Netlist) (numbers : Numbers) : Type 0 where
  pub nets : (n : ℕ) → number_in numbers n ≡ net_number d (numbering_of d) n
  pub memory : numbers.memory ≡ (numbering_of d).memory
  pub bank : numbers.bank ≡ (numbering_of d).bank
  pub storage : numbers.storage ≡ memory_id (others d)
  pub bank_place : numbers.bank_place ≡ bank_place d
  pub few_nets : (n : ℕ) → number_in numbers n ≤ 6100
  pub few_memory : numbers.memory ≤ 6100
  pub few_bank : numbers.bank ≤ 6100

-- the storages from a number on as the view has them
abbrev pub joined_from : Netlist → ℕ → List Storage → List Storage
joined_from d i [] = []
joined_from d i (storage ∷ storages) =
    if i == (bank_place d) then joined_from d (i + 1) storages
    else joined d (numbering_of d) storage ∷ joined_from d (i + 1) storages
