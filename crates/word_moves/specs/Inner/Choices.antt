-- The net whose value a case or a bus takes.
use Rattle.std.specs.Prelude.{ℕ, ◌==◌, if◌then◌else◌, List, [], ◌∷◌, Option, Some, None}
use Rattle.net_model.specs.Exprs.{ExprModel, const}

-- the net of the row with this number, or the rest
abbrev pub case_target : ℕ → List (ℕ × ℕ) → Option ℕ → Option ℕ
case_target key [] rest = rest
case_target key (row ∷ rows) rest = if row.0 == key then Some row.1 else case_target key rows rest

-- the net of the first driver whose enable is 1
abbrev pub driver_target : (ℕ → ℕ) → List (ℕ × ℕ) → Option ℕ
driver_target u [] = None
driver_target u (driver ∷ drivers) = if u driver.1 == 1 then Some driver.0 else driver_target u drivers

-- the symbolic value of a net, and 0 where there is none
abbrev pub expr_there : (ℕ → ExprModel) → ℕ → Option ℕ → ExprModel
expr_there t width None = const width 0
expr_there t width (Some n) = t n
