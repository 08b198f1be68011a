-- Routes that are given up, since there are more of them than a net may have values.
use Rattle.std.specs.Prelude.{◌≡◌, ◌⊎◌, ℕ, ◌^◌, ◌<◌, List, [], length}
use Rattle.bit_bdd.specs.Diagrams.{Diagrams}
use Rattle.net_model.specs.Exprs.{ExprModel}
use Rattle.sym_expr.specs.declared.pool.Node.{Node}
use Rattle.transfer_set.specs.declared.route.Route.{Route}
use Rattle.transfer_set.specs.Routes.{IsRouteTable, models_under}
use Rattle.route_trace.specs.declared.stop.TraceStop.{TraceStop}
use Rattle.route_trace.specs.declared.stop.TraceStop.TheVariants.{Many, Memory}

-- more than 4,096 routes, which give each word nothing yet, or what is right for it
pub record IsOver (book : Diagrams) (pool : List Node) (IsRight : ℕ → List ExprModel → Type 0) : Type 0 where
  pub routes : List Route
  pub many : 4096 < length routes
  pub table : IsRouteTable book pool routes
  pub part : (word : ℕ) → word < 2 ^ book.bits →
      (models_under book pool routes word ≡ []) ⊎ IsRight word (models_under book pool routes word)

-- what is said where there are too many; want of memory says nothing
abbrev pub IfMany : TraceStop → Type 0 → Type 0
IfMany Many P = P
IfMany Memory P = Unit {0}
