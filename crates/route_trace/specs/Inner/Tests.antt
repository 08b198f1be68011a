-- What is known of the nets that decide cases and buses.
use Rattle.std.specs.Prelude.{◌≡◌, ◌⊎◌, ℕ, ◌<◌, ◌==◌, if◌then◌else◌, Bool, true, false, List, [], ◌∷◌, length, Option, None, Some}
use Rattle.std.specs.List.{AllByRecursion}
use Rattle.bit_bdd.specs.Diagrams.{Diagrams}
use Rattle.net_model.specs.declared.hardware.Netlist.{Netlist}
use Rattle.net_model.specs.declared.hardware.Gate.{Gate}
use Rattle.net_model.specs.declared.hardware.Gate.TheVariants.{Case, Bus}
use Rattle.net_model.specs.Nets.{width_at}
use Rattle.net_model.specs.Symbolic.{is_static, case_expr}
use Rattle.net_model.specs.Exprs.{ExprModel, const, select}
use Rattle.sym_expr.specs.declared.pool.Node.{Node}
use Rattle.ctl_bdd.specs.Bits.{AreSets, number_at}
use Rattle.ctl_bdd.specs.Tables.{AreBits}
use Rattle.transfer_set.specs.declared.route.Route.{Route}
use Rattle.transfer_set.specs.Routes.{models_under, only, routes_at}
use Rattle.route_trace.specs.Inner.Gates.{AllWide}

-- the sets that stand with a net, and none where it doesn't stand there
abbrev pub sets_in : List (ℕ × List ℕ) → ℕ → List ℕ
sets_in [] n = []
sets_in (net ∷ nets) n = if net.0 == n then net.1 else sets_in nets n

-- the sets of a net's bits
abbrev pub HasBits : Netlist → Diagrams → List ℕ → ℕ → Type 0
HasBits netlist book sets n = AreSets book sets × AreBits netlist book n sets

-- a selector is static and has its bits, or has one bit and no sets
abbrev pub IsSelector : Netlist → Diagrams → List ℕ → ℕ → Type 0
IsSelector netlist book sets sel =
    ((is_static netlist sel ≡ true) × HasBits netlist book sets sel)
    ⊎ ((is_static netlist sel ≡ false) × (sets ≡ []) × (width_at netlist sel ≡ 1))

-- what decides a gate is known
abbrev pub IsDecided : Netlist → Diagrams → List (ℕ × List ℕ) → Gate → Type 0
IsDecided netlist book bits (Case sel rows rest) = IsSelector netlist book (sets_in bits sel) sel
IsDecided netlist book bits (Bus drivers) =
    AllByRecursion (λ (driver : ℕ × ℕ). HasBits netlist book (sets_in bits driver.1) driver.1) drivers
IsDecided netlist book bits _ = Unit {0}

-- what a case gives: by its selector's number where the selector is decided, and else by its bit
abbrev pub case_term : (ℕ → ExprModel) → (ℕ → ℕ) → (ℕ → Bool) → ℕ → ℕ → List (ℕ × ℕ) → Option ℕ → ExprModel
case_term t u f width sel rows rest =
    if f sel then case_expr t width (u sel) rows rest
    else select (t sel) (case_expr t width 1 rows rest) (case_expr t width 0 rows rest)

-- the net of a case's row with this number, or that of the rest
abbrev pub target : List (ℕ × ℕ) → ℕ → Option ℕ → Option ℕ
target [] key rest = rest
target (row ∷ rows) key rest = if row.0 == key then Some row.1 else target rows key rest

-- what the net of a row gives, which is the constant 0 where there is no net
abbrev pub target_exprs : Diagrams → List Node → List (List Route) → ℕ → ℕ → Option ℕ → ℕ → List ExprModel
target_exprs book pool nets legal width None word = only book legal word (const width 0)
target_exprs book pool nets legal width (Some n) word = models_under book pool (routes_at nets n) word

-- the net of a row has expressions of this width
abbrev pub IsTargetWide : List Node → List (List Route) → ℕ → Option ℕ → Type 0
IsTargetWide pool nets width None = Unit {0}
IsTargetWide pool nets width (Some n) = AllWide pool width (routes_at nets n)

-- the nets of all rows have
abbrev pub AreRowsWide : List Node → List (List Route) → ℕ → List (ℕ × ℕ) → Option ℕ → Type 0
AreRowsWide pool nets width [] rest = IsTargetWide pool nets width rest
AreRowsWide pool nets width (row ∷ rows) rest =
    AllWide pool width (routes_at nets row.1) × AreRowsWide pool nets width rows rest

-- the selector is static where it has sets, and they give its value
abbrev pub IsSelectedAt : Diagrams → List ℕ → ℕ → (ℕ → ℕ) → (ℕ → Bool) → ℕ → Type 0
IsSelectedAt book sets word u f sel =
    ((0 < length sets) × (f sel ≡ true) × (number_at book sets word ≡ u sel)) ⊎ ((sets ≡ []) × (f sel ≡ false))

-- the sets of enables give their values
abbrev pub AreEnabledAt : Diagrams → List (ℕ × List ℕ) → ℕ → (ℕ → ℕ) → List (ℕ × ℕ) → Type 0
AreEnabledAt book bits word u drivers =
    AllByRecursion (λ (driver : ℕ × ℕ). number_at book (sets_in bits driver.1) word ≡ u driver.1) drivers
