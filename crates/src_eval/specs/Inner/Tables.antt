-- A table of names finds the first cell of each variable.
use Rattle.std.specs.Prelude.{◌≡◌, ℕ, ◌+◌, List, [], ◌∷◌, Option, Some, None, if◌then◌else◌}
use Rattle.std.specs.Map.{lookup}
use Rattle.std.proofs.Common.{Bor}
use Rattle.src_model.specs.declared.program.Var.{Var as Declared}
use Rattle.rec_bits.specs.Faults.{same_name}
use Rattle.src_model.specs.Meaning.{cells_in, cell_count}

abbrev pub cells_past : ℕ → Option ℕ → Option ℕ
cells_past n None = None
cells_past n (Some cell) = Some (n + cell)

-- the first cell of the first variable of a name, if there is one
abbrev pub cell_of_name : List Declared → List ℕ → Option ℕ
cell_of_name [] name = None
cell_of_name (v ∷ rest) name =
    if same_name name v.name then Some 0 else cells_past (cells_in v) (cell_of_name rest name)

pub record IsCellTable (entries : List (Bor (List ℕ) × ℕ)) (total : ℕ) (vars : List Declared) : Type 0 where
  pub finds : (name : List ℕ) → lookup (λ key. same_name name key.now) entries ≡ cell_of_name vars name
  pub total_is : total ≡ cell_count vars
