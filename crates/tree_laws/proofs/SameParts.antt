-- What is known of the trees of a law: their values fit their widths.
use Rattle.std.proofs.Common.{◌≡◌, ℕ, ◌^◌, ◌<◌, ◌≤◌, refl, subst}
use Rattle.net_model.specs.declared.states.State.{State}
use Rattle.net_model.specs.Exprs.{ExprModel, expr_width}
use Rattle.net_model.specs.Meaning.{mean}
use Rattle.sym_expr.specs.Pools.{ExprFits, Suits}
use Rattle.sym_expr.proofs.Fits.{value_below, width_low}

pub fit : (t : ExprModel) (s : State) (i : ℕ) → ExprFits t → Suits t s i → mean t s i < 2 ^ expr_width t
fit t s i h u = value_below t s i (mean t s i) (expr_width t) refl refl h u

-- the same for a second operand, at the width of the first
pub fit_as : (t : ExprModel) (w : ℕ) (s : State) (i : ℕ) → expr_width t ≡ w → ExprFits t → Suits t s i → mean t s i < 2 ^ w
fit_as t w s i e h u = subst (λ v. mean t s i < 2 ^ v) e (fit t s i h u)

pub some : (t : ExprModel) → ExprFits t → 1 ≤ expr_width t
some t h = width_low t (expr_width t) refl h
