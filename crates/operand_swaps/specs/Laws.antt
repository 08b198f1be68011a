-- Expressions of one meaning, and the law of swaps.
use Rattle.std.specs.Prelude.{◌≡◌, ℕ, Option, Some, None}
use Rattle.net_model.specs.declared.states.State.{State}
use Rattle.net_model.specs.Meaning.{mean}
use Rattle.net_model.specs.Exprs.{ExprModel, expr_width}
use Rattle.sym_expr.specs.Pools.{ExprFits}
use Rattle.operand_swaps.specs.Swaps.{SidesModel, swapped}

-- an expression of the same width and value, where the first one's widths fit
pub record IsAlike (t u : ExprModel) : Type 0 where
  pub width : ExprFits t → expr_width u ≡ expr_width t
  pub fits : ExprFits t → ExprFits u
  pub same : ExprFits t → (s : State) (i : ℕ) → mean u s i ≡ mean t s i

-- and so for an address, where there is one
abbrev pub IsAddrAlike : Option ExprModel → Option ExprModel → Type 0
IsAddrAlike None None = Unit {0}
IsAddrAlike None (Some b) = ⊥
IsAddrAlike (Some a) None = ⊥
IsAddrAlike (Some a) (Some b) = IsAlike a b

-- so are both sides
pub record AreAlike (before after : SidesModel) : Type 0 where
  pub addr : IsAddrAlike before.addr after.addr
  pub value : IsAlike before.value after.value

-- no choice of swaps changes the width or the meaning of an address or a value
abbrev pub SwapsChangeNothing : Type 0
SwapsChangeNothing = (choice : ℕ) (sides : SidesModel) → AreAlike sides (swapped choice sides)
