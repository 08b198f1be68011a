-- A table of names finds the first declaration of each.
use Rattle.std.specs.Prelude.{◌≡◌, ℕ, List, option_copied}
use Rattle.std.specs.Map.{lookup}
use Rattle.std.proofs.Common.{Bor}
use Rattle.src_model.specs.declared.program.Var.{Var as Declared}
use Rattle.src_model.specs.Names.{declared}
use Rattle.rec_bits.specs.Faults.{same_name}

abbrev pub Finds : List (Bor (List ℕ) × Bor Declared) → List Declared → Type 0
Finds entries vars =
    (name : List ℕ) →
    option_copied (lookup (λ key. same_name name key.now) entries) ≡ declared vars name
