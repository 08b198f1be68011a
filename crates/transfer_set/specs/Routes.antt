-- The routes of a net: its symbolic values, each with the words that give it. A route is an
-- expression with a set of words. The routes of a net *give* each word without a clash its
-- symbolic value: for each such word the list of the routes that hold it has one element, with
-- that expression, and for each other word it is empty. No set is empty, no two routes of a net
-- have one expression.
use Rattle.std.specs.Prelude.{◌≡◌, ◌≢◌, ◌↔◌, ℕ, ◌^◌, ◌<◌, true, if◌then◌else◌, List, [], ◌∷◌, ◌++◌, map, length, Option, None, Some}
use Rattle.std.specs.Prelude.{slice_get}
use Rattle.bit_bdd.specs.Diagrams.{Diagrams, has_word}
use Rattle.net_model.specs.declared.hardware.Netlist.{Netlist}
use Rattle.net_model.specs.Symbolic.{sym_of}
use Rattle.net_model.specs.Exprs.{ExprModel}
use Rattle.sym_expr.specs.declared.pool.Node.{Node}
use Rattle.sym_expr.specs.Pools.{expr_of_id}
use Rattle.transfer_set.specs.declared.route.Route.{Route}

-- ---- lists of routes

-- the expression of a route, if its set holds the word
abbrev pub row : Diagrams → Route → ℕ → List ℕ
row book route word = if has_word book route.set word then route.expr ∷ [] else []

-- the expressions of the routes whose sets hold a word
abbrev pub exprs_under : Diagrams → List Route → ℕ → List ℕ
exprs_under book [] word = []
exprs_under book (route ∷ routes) word = row book route word ++ exprs_under book routes word

abbrev pub models_under : Diagrams → List Node → List Route → ℕ → List ExprModel
models_under book pool routes word = map (expr_of_id pool) (exprs_under book routes word)

-- an expression that no route has
abbrev pub Fresh : ℕ → List Route → Type 0
Fresh expr [] = Unit {0}
Fresh expr (route ∷ routes) = (route.expr ≢ expr) × Fresh expr routes

-- no two routes have one expression
abbrev pub NoRepeat : List Route → Type 0
NoRepeat [] = Unit {0}
NoRepeat (route ∷ routes) = Fresh route.expr routes × NoRepeat routes

-- a set of the book that holds a word
pub record IsSet (book : Diagrams) (set : ℕ) : Type 0 where
  pub within : set < length book.nodes
  pub word : ℕ
  pub fits : word < 2 ^ book.bits
  pub holds : has_word book set word ≡ true

abbrev pub AllSets : Diagrams → List Route → Type 0
AllSets book [] = Unit {0}
AllSets book (route ∷ routes) = IsSet book route.set × AllSets book routes

-- each expression is one of the pool
abbrev pub AllExprs : ℕ → List Route → Type 0
AllExprs size [] = Unit {0}
AllExprs size (route ∷ routes) = (route.expr < size) × AllExprs size routes

-- no set is empty, and no two routes have one expression
pub record IsRoutes (book : Diagrams) (routes : List Route) : Type 0 where
  pub sets : AllSets book routes
  pub apart : NoRepeat routes

-- routes over a book and a pool
pub record IsRouteTable (book : Diagrams) (pool : List Node) (routes : List Route) : Type 0 where
  pub right : IsRoutes book routes
  pub exprs : AllExprs (length pool) routes

-- ---- what they say

-- one expression at the words of a set, and none at others
abbrev pub only : Diagrams → ℕ → ℕ → ExprModel → List ExprModel
only book legal word expr = if has_word book legal word then expr ∷ [] else []

-- the routes give each word of a set its expression, by just one of them, and no other word any
abbrev pub GivesExpr : Diagrams → List Node → ℕ → (ℕ → ExprModel) → List Route → Type 0
GivesExpr book pool legal f routes =
    (word : ℕ) → word < 2 ^ book.bits →
    models_under book pool routes word ≡ only book legal word (f word)

-- the set of a route is all words of the set with its expression
abbrev pub RouteIs : Diagrams → List Node → ℕ → (ℕ → ExprModel) → Route → Type 0
RouteIs book pool legal f route =
    (word : ℕ) → word < 2 ^ book.bits →
    (has_word book route.set word ≡ true) ↔ ((has_word book legal word ≡ true) × (expr_of_id pool route.expr ≡ f word))

-- the routes of a net
abbrev pub routes_or_none : Option (List Route) → List Route
routes_or_none None = []
routes_or_none (Some routes) = routes

abbrev pub routes_at : List (List Route) → ℕ → List Route
routes_at nets n = routes_or_none (slice_get nets n)

-- the routes of each net of the netlist partition the words without clash by the net's symbolic
-- value
pub record AreRoutes (netlist : Netlist) (book : Diagrams) (pool : List Node) (legal : ℕ)
    (nets : List (List Route)) : Type 0 where
  pub long : length nets ≡ length netlist.nets
  pub tables : (n : ℕ) → IsRouteTable book pool (routes_at nets n)
  pub gives : (n : ℕ) → n < length netlist.nets →
      GivesExpr book pool legal (λ word. sym_of netlist word n) (routes_at nets n)
