-- The places of a program's variables in two memories: in the memory temporary cells from 0 on and
-- then the variables that aren't in the bank; those that are from 2^k on; each in the order of the
-- declarations, arrays whole.
use Rattle.std.specs.Prelude.{ℕ, ◌+◌, ◌^◌, ◌≡◌, ◌<◌, ◌≤◌, ◌⊎◌, Bool, true, false, List, [], ◌∷◌, length}
use Rattle.src_model.specs.declared.program.Var.{Var as Declared}
use Rattle.src_model.specs.Written.{ProgramModel}
use Rattle.src_model.specs.Rules.{temp_count}
use Rattle.src_model.specs.Meaning.{cells_in}
use Rattle.code_model.specs.declared.image.Place.{Place}
use Rattle.code_model.specs.declared.image.Places.{Places}
use Rattle.binding.specs.declared.fault.BindFault.{BindFault}
use Rattle.binding.specs.declared.fault.BindFault.TheVariants.{DataFull, Memory}

-- how many cells the variables have that are in the memory, and in the bank
abbrev pub memory_cells : List Bool → List Declared → ℕ
memory_cells (true ∷ in_bank) (var ∷ vars) = memory_cells in_bank vars
memory_cells (false ∷ in_bank) (var ∷ vars) = cells_in var + memory_cells in_bank vars
memory_cells _ _ = 0

abbrev pub bank_cells : List Bool → List Declared → ℕ
bank_cells (true ∷ in_bank) (var ∷ vars) = cells_in var + bank_cells in_bank vars
bank_cells (false ∷ in_bank) (var ∷ vars) = bank_cells in_bank vars
bank_cells _ _ = 0

-- the places of variables, those in the memory from one address on and those in the bank from
-- another
abbrev pub places_by : ℕ → ℕ → List Bool → List Declared → List Place
places_by low high (true ∷ in_bank) (var ∷ vars) =
    record { name = var.name; address = high; len = cells_in var } ∷ places_by low (high + cells_in var) in_bank vars
places_by low high (false ∷ in_bank) (var ∷ vars) =
    record { name = var.name; address = low; len = cells_in var } ∷ places_by (low + cells_in var) high in_bank vars
places_by low high _ _ = []

-- the layout of a program for words of so many bits, where addresses of the memory have k
abbrev pub bank_layout : ℕ → ℕ → List Bool → ProgramModel → Places
bank_layout word k in_bank l = record {
  temps = temp_count word l;
  list = places_by (temp_count word l) (2 ^ k) in_bank l.vars;
}

abbrev pub memory_need : ℕ → List Bool → ProgramModel → ℕ
memory_need word in_bank l = temp_count word l + memory_cells in_bank l.vars

-- there are too few cells in the memory, or else in the bank; both numbers are told
abbrev pub IsBankFault : ℕ → ℕ → ℕ → ℕ → BindFault → Type 0
IsBankFault need cells bank_need bank (DataFull n h) =
    ((n ≡ need) × (h ≡ cells) × (cells < need))
    ⊎ ((n ≡ bank_need) × (h ≡ bank) × (bank < bank_need) × (need ≤ cells))
IsBankFault need cells bank_need bank Memory = Unit {0}

-- a memory with addresses of k bits and a bank of so many cells have room for a program's variables,
-- of which these are in the bank, and for the temporary cells; words hold addresses of both
pub record FitsBanks (word k bank : ℕ) (in_bank : List Bool) (l : ProgramModel) : Type 0 where
  pub some : 1 ≤ k
  pub wide : k + 2 ≤ word
  pub flags : length in_bank ≡ length l.vars
  pub memory : memory_need word in_bank l ≤ 2 ^ k
  pub enough : bank_cells in_bank l.vars ≤ bank
  pub least : bank ≤ 2 ^ k
