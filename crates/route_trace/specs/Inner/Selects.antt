-- Choices between two operands.
use Rattle.std.specs.Prelude.{List, [], ◌∷◌, map}
use Rattle.net_model.specs.Exprs.{ExprModel, select}
use Rattle.sym_expr.specs.declared.pool.Node.{Node}
use Rattle.transfer_set.specs.declared.route.Route.{Route}
use Rattle.route_trace.specs.declared.heads.Binary.TheVariants.{Select}
use Rattle.route_trace.specs.Inner.Routing.{AllBinaryFit, each}

-- the two operands fit under each selector
abbrev pub AllSelectFit : List Node → List Route → List Route → List Route → Type 0
AllSelectFit pool [] firsts seconds = Unit {0}
AllSelectFit pool (c ∷ choices) firsts seconds =
    AllBinaryFit (Select c.expr) pool firsts seconds × AllSelectFit pool choices firsts seconds

-- all choices under one selector
abbrev pub under : ExprModel → List ExprModel → List ExprModel → List ExprModel
under c firsts seconds = each (λ a. map (select c a) seconds) firsts

abbrev pub selects : List ExprModel → List ExprModel → List ExprModel → List ExprModel
selects choices firsts seconds = each (λ c. under c firsts seconds) choices
