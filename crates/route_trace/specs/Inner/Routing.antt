-- Lists of routes.
use Rattle.std.specs.Prelude.{◌≡◌, ℕ, ◌^◌, ◌<◌, ◌≤◌, Bool, false, ◌||◌, if◌then◌else◌, List, [], ◌∷◌, ◌++◌, map, length, Option, None, Some, slice_get}
use Rattle.bit_bdd.specs.Diagrams.{Diagrams, has_word}
use Rattle.net_model.specs.Exprs.{ExprModel, expr_width}
use Rattle.sym_expr.specs.declared.pool.Node.{Node}
use Rattle.sym_expr.specs.Pools.{expr_of_id}
use Rattle.transfer_set.specs.declared.route.Route.{Route}
use Rattle.transfer_set.specs.Routes.{Fresh, IsRouteTable, exprs_under, models_under, routes_at}
use Rattle.route_trace.specs.declared.heads.Head.{Head}
use Rattle.route_trace.specs.declared.heads.Binary.{Binary}
use Rattle.route_trace.specs.Inner.Heads.{LastFits, binary_head, binary_expr}

-- where an expression is found
abbrev pub Finds : ℕ → List Route → Option ℕ → Type 0
Finds expr routes None = Fresh expr routes
Finds expr routes (Some place) = (route : Route) × (slice_get routes place ≡ Some route) × (route.expr ≡ expr)

-- each expression can be the last operand
abbrev pub AllFit : Head → List Node → List Route → Type 0
AllFit head pool [] = Unit {0}
AllFit head pool (route ∷ routes) =
    LastFits head (expr_of_id pool) (expr_width (expr_of_id pool route.expr)) × AllFit head pool routes

-- each pair of expressions can be the two operands
abbrev pub AllBinaryFit : Binary → List Node → List Route → List Route → Type 0
AllBinaryFit binary pool [] bs = Unit {0}
AllBinaryFit binary pool (a ∷ rest) bs = AllFit (binary_head binary a.expr) pool bs × AllBinaryFit binary pool rest bs

-- what a function gives for each term
abbrev pub each : (ExprModel → List ExprModel) → List ExprModel → List ExprModel
each f [] = []
each f (t ∷ ts) = f t ++ each f ts

-- an operator over all pairs
abbrev pub pairs : Binary → (ℕ → ExprModel) → List ExprModel → List ExprModel → List ExprModel
pairs binary t firsts seconds = each (λ a. map (binary_expr binary t a) seconds) firsts

-- routes of nets, where at most one route of a net holds a word
pub record AreTables (book : Diagrams) (pool : List Node) (nets : List (List Route)) : Type 0 where
  pub tables : (n : ℕ) → IsRouteTable book pool (routes_at nets n)
  pub one : (n word : ℕ) → word < 2 ^ book.bits → length (exprs_under book (routes_at nets n) word) ≤ 1

-- tests, each with the net that is taken where it is the first that holds
abbrev pub AllTests : Diagrams → List (ℕ × ℕ) → Type 0
AllTests book [] = Unit {0}
AllTests book (test ∷ tests) = (test.0 < length book.nodes) × AllTests book tests

abbrev pub passes : Diagrams → ℕ → List (ℕ × ℕ) → Bool
passes book word [] = false
passes book word (test ∷ tests) = has_word book test.0 word || passes book word tests

abbrev pub first_exprs : Diagrams → List Node → List (List Route) → ℕ → List (ℕ × ℕ) → List ExprModel
first_exprs book pool nets word [] = []
first_exprs book pool nets word (test ∷ tests) =
    if has_word book test.0 word then models_under book pool (routes_at nets test.1) word
    else first_exprs book pool nets word tests
