-- Slices of slices.
use Rattle.std.proofs.Common.{◌≡◌, ℕ, ◌+◌, ◌==◌, ◌&&◌, if◌then◌else◌, None, Some, refl, ap, sym}
use Rattle.net_model.specs.Exprs.{ExprModel, slice, expr_width}
use Rattle.net_model.specs.Symbolic.{sliced}
use Rattle.sym_expr.specs.declared.pool.Node.{Node}
use Rattle.sym_expr.specs.declared.pool.Node.TheVariants.{Slice}
use Rattle.sym_expr.specs.Pools.{node_expr}
use Rattle.route_trace.specs.Inner.Heads.{slice_parts}

-- a slice of what is no slice
pub plain : (node : Node) (t : ℕ → ExprModel) (hi lo : ℕ) → None ≡ slice_parts node → sliced (node_expr node t) hi lo ≡ (if (lo == 0) && (hi + 1 == expr_width (node_expr node t)) then node_expr node t else slice (node_expr node t) hi lo)
plain (Slice a h l) t hi lo e = absurd (cc)
plain node t hi lo e = refl

-- what is known where there is a slice
pub record IsSlice (node : Node) (a h l : ℕ) : Type 0 where
  pub is : node ≡ Slice a h l

pub inner : (node : Node) (a h l : ℕ) → Some (a, h, l) ≡ slice_parts node → IsSlice node a h l
inner (Slice a' h' l') a h l e =
    let s : (a, h, l) ≡ (a', h', l') = cc in
    let ea : a ≡ a' = ap (λ (p : ℕ × ℕ × ℕ). p.0) s in
    let eh : h ≡ h' = ap (λ (p : ℕ × ℕ × ℕ). p.1) s in
    let el : l ≡ l' = ap (λ (p : ℕ × ℕ × ℕ). p.2) s in
    record { is = λ j. Slice (sym ea j) (sym eh j) (sym el j) }
inner node a h l e = absurd (cc)
