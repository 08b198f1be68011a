-- The routes of gates.
use Rattle.std.specs.Prelude.{◌≡◌, ℕ, ◌^◌, ◌<◌, ◌==◌, true, List, [], ◌∷◌, length, Option, None, Some}
use Rattle.bit_bdd.specs.Diagrams.{Diagrams, has_word}
use Rattle.net_model.specs.Exprs.{ExprModel, const, expr_width}
use Rattle.net_model.specs.declared.hardware.Netlist.{Netlist}
use Rattle.net_model.specs.Nets.{width_at}
use Rattle.sym_expr.specs.declared.pool.Node.{Node}
use Rattle.sym_expr.specs.Pools.{expr_of_id}
use Rattle.transfer_set.specs.declared.route.Route.{Route}
use Rattle.transfer_set.specs.Routes.{models_under, routes_at, only}
use Rattle.route_trace.specs.Limits.{AllDiffer}

-- the expressions where no test holds
abbrev pub rest_exprs : Diagrams → List Node → List (List Route) → ℕ → Option ℕ → ℕ → List ExprModel
rest_exprs book pool nets width None word = const width 0 ∷ []
rest_exprs book pool nets width (Some n) word = models_under book pool (routes_at nets n) word

-- the routes of these nets give these expressions at a word
abbrev pub AllGive : Diagrams → List Node → List (List Route) → ℕ → (ℕ → ExprModel) → ℕ → List ℕ → Type 0
AllGive book pool nets legal t word [] = Unit {0}
AllGive book pool nets legal t word (m ∷ ms) =
    (models_under book pool (routes_at nets m) word ≡ only book legal word (t m))
    × AllGive book pool nets legal t word ms

-- each expression has this width
abbrev pub AllWide : List Node → ℕ → List Route → Type 0
AllWide pool width [] = Unit {0}
AllWide pool width (route ∷ routes) = (expr_width (expr_of_id pool route.expr) ≡ width) × AllWide pool width routes

pub record HaveWidths (netlist : Netlist) (pool : List Node) (nets : List (List Route)) : Type 0 where
  pub widths : (n : ℕ) → AllWide pool (width_at netlist n) (routes_at nets n)

-- the tests of the rows of a case, or of the drivers of a bus, at a word
abbrev pub RowTests : Diagrams → ℕ → ℕ → List (ℕ × ℕ) → List (ℕ × ℕ) → Type 0
RowTests book word key [] [] = Unit {0}
RowTests book word key [] (row ∷ rows) = ⊥
RowTests book word key (test ∷ tests) [] = ⊥
RowTests book word key (test ∷ tests) (row ∷ rows) =
    (has_word book test.0 word ≡ (row.0 == key)) × (test.1 ≡ row.1)
    × RowTests book word key tests rows

abbrev pub DriverTests : Diagrams → ℕ → (ℕ → ℕ) → List (ℕ × ℕ) → List (ℕ × ℕ) → Type 0
DriverTests book word u [] [] = Unit {0}
DriverTests book word u [] (driver ∷ drivers) = ⊥
DriverTests book word u (test ∷ tests) [] = ⊥
DriverTests book word u (test ∷ tests) (driver ∷ drivers) =
    (has_word book test.0 word ≡ (u driver.1 == 1)) × (test.1 ≡ driver.0)
    × DriverTests book word u tests drivers

-- legal words
abbrev pub AllLegal : Diagrams → ℕ → List ℕ → Type 0
AllLegal book legal [] = Unit {0}
AllLegal book legal (w ∷ ws) = (w < 2 ^ book.bits) × (has_word book legal w ≡ true) × AllLegal book legal ws

-- legal words give this many different expressions
pub record HasValues (book : Diagrams) (legal : ℕ) (f : ℕ → ExprModel) (number : ℕ) : Type 0 where
  pub words : List ℕ
  pub count : length words ≡ number
  pub legal_words : AllLegal book legal words
  pub apart : AllDiffer f words
