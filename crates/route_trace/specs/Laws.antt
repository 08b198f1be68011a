-- What follows from the routes of a netlist.
use Rattle.std.specs.Prelude.{◌≡◌, ℕ, ◌^◌, ◌<◌, true, List, [], ◌∷◌, length, Some, slice_get}
use Rattle.bit_bdd.specs.Diagrams.{Diagrams, has_word}
use Rattle.net_model.specs.declared.hardware.Netlist.{Netlist}
use Rattle.net_model.specs.declared.states.State.{State}
use Rattle.net_model.specs.Value.{value_of}
use Rattle.net_model.specs.Widths.{IsTyped, StateFits, WordFits}
use Rattle.net_model.specs.Symbolic.{sym_of}
use Rattle.net_model.specs.Meaning.{mean}
use Rattle.net_model.specs.Control.{IsControlled}
use Rattle.sym_expr.specs.declared.pool.Node.{Node}
use Rattle.sym_expr.specs.Pools.{expr_of_id, IsOneEach}
use Rattle.transfer_set.specs.declared.route.Route.{Route}
use Rattle.transfer_set.specs.Routes.{AreRoutes, IsSet, RouteIs, exprs_under, routes_at}

-- the set of each route of a net is all words of `legal` with its expression
abbrev pub AreExact : Type 0
AreExact =
    (netlist : Netlist) (book : Diagrams) (pool : List Node) (legal : ℕ) (nets : List (List Route))
    → IsOneEach pool → AreRoutes netlist book pool legal nets → (n : ℕ) → n < length netlist.nets
    → (place : ℕ) (route : Route) → slice_get (routes_at nets n) place ≡ Some route
    → RouteIs book pool legal (λ word. sym_of netlist word n) route

-- the one expression that a net's routes give a word
pub record HasOne (book : Diagrams) (pool : List Node) (netlist : Netlist) (n word : ℕ)
    (routes : List Route) : Type 0 where
  pub expr : ℕ
  pub only : exprs_under book routes word ≡ expr ∷ []
  pub is : expr_of_id pool expr ≡ sym_of netlist word n

-- each word of `legal` is in one route's set alone, and each set holds a word
abbrev pub AreWhole : Type 0
AreWhole =
    (netlist : Netlist) (book : Diagrams) (pool : List Node) (legal : ℕ) (nets : List (List Route))
    → AreRoutes netlist book pool legal nets → (n : ℕ) → n < length netlist.nets
    → ((word : ℕ) → word < 2 ^ book.bits → has_word book legal word ≡ true
    → HasOne book pool netlist n word (routes_at nets n))
    × ((place : ℕ) (route : Route) → slice_get (routes_at nets n) place ≡ Some route → IsSet book route.set)

-- what a route's expression means is the net's value, in each state, under each word of its set
abbrev pub RoutesMean : Type 0
RoutesMean =
    (netlist : Netlist) (s : State) (book : Diagrams) (pool : List Node) (legal : ℕ) (nets : List (List Route))
    → IsTyped netlist → IsControlled netlist → StateFits netlist s → IsOneEach pool
    → AreRoutes netlist book pool legal nets → (n : ℕ) → n < length netlist.nets
    → (place : ℕ) (route : Route) → slice_get (routes_at nets n) place ≡ Some route
    → (word : ℕ) → word < 2 ^ book.bits → WordFits netlist word
    → has_word book route.set word ≡ true
    → mean (expr_of_id pool route.expr) s word ≡ value_of netlist s word n
