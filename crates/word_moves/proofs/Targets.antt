-- A case and a bus take what stands at one net.
use Rattle.std.proofs.Common.{◌≡◌, ℕ, ◌==◌, Bool, true, false, if◌then◌else◌, List, [], ◌∷◌, Option, Some, None, IfSome, refl, ◌∙◌}
use Rattle.std.specs.List.{AllByRecursion}
use Rattle.net_model.specs.declared.hardware.Netlist.{Netlist}
use Rattle.net_model.specs.Exprs.{ExprModel}
use Rattle.net_model.specs.Nets.{row_nets, driver_nets, width_at}
use Rattle.net_model.specs.Symbolic.{case_expr, bus_expr}
use Rattle.net_model.specs.Widths.{RowsFit, RestFits, DriversFit}
use Rattle.sym_expr.specs.declared.pool.Node.{Node}
use Rattle.word_moves.specs.Inner.Choices.{case_target, driver_target, expr_there}
use Rattle.word_moves.specs.Inner.Gates.{IsWide, IsKnown}

module _ {X : Type 0} (there : Option ℕ → X) where
  choose : (b : Bool) (n : ℕ) (rest : Option ℕ) (x : X) → there rest ≡ x → there (if b then Some n else rest) ≡ (if b then there (Some n) else x)
  choose true n rest x e = refl
  choose false n rest x e = e

-- ---- symbolic values

pub case_expr_there : (t : ℕ → ExprModel) (width key : ℕ) (rows : List (ℕ × ℕ)) (rest : Option ℕ) → expr_there t width (case_target key rows rest) ≡ case_expr t width key rows rest
case_expr_there t width key [] None = refl
case_expr_there t width key [] (Some n) = refl
case_expr_there t width key (row ∷ rows) rest = choose (expr_there t width) (row.0 == key) row.1 (case_target key rows rest) _ (case_expr_there t width key rows rest)

pub bus_expr_there : (t : ℕ → ExprModel) (u : ℕ → ℕ) (width : ℕ) (drivers : List (ℕ × ℕ)) → expr_there t width (driver_target u drivers) ≡ bus_expr t u width drivers
bus_expr_there t u width [] = refl
bus_expr_there t u width (driver ∷ drivers) = choose (expr_there t width) (u driver.1 == 1) driver.0 (driver_target u drivers) _ (bus_expr_there t u width drivers)

-- ---- the net is known

pick : (P : ℕ → Type 0) (b : Bool) (n : ℕ) (rest : Option ℕ) → P n → IfSome rest P → IfSome (if b then Some n else rest) P
pick P true n rest h k = h
pick P false n rest h k = k

module _ (netlist : Netlist) (nodes : List Node) (ids : List ℕ) (width : ℕ) where
  wide : (n : ℕ) → IsKnown netlist nodes ids n → width_at netlist n ≡ width → IsWide nodes ids width n
  wide n h e = (h.0, h.1 ∙ e)

  pub case_known : (sel key : ℕ) (rows : List (ℕ × ℕ)) (rest : Option ℕ) → RowsFit netlist sel width rows → RestFits netlist width rest → AllByRecursion (IsKnown netlist nodes ids) (row_nets rows rest) → IfSome (case_target key rows rest) (IsWide nodes ids width)
  case_known sel key [] None r f k = tt
  case_known sel key [] (Some n) r f k = wide n k.0 f.1
  case_known sel key (row ∷ rows) rest r f k =
      pick (IsWide nodes ids width) (row.0 == key) row.1 (case_target key rows rest) (wide row.1 k.0 r.1.1) (case_known sel key rows rest r.2 f k.1)

  pub bus_known : (u : ℕ → ℕ) (drivers : List (ℕ × ℕ)) → DriversFit netlist width drivers → AllByRecursion (IsKnown netlist nodes ids) (driver_nets drivers) → IfSome (driver_target u drivers) (IsWide nodes ids width)
  bus_known u [] f k = tt
  bus_known u (driver ∷ drivers) f k =
      pick (IsWide nodes ids width) (u driver.1 == 1) driver.0 (driver_target u drivers) (wide driver.0 k.0 f.0.1) (bus_known u drivers f.2 k.1.1)
