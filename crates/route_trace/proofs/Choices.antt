-- Choices while a pool grows.
use Rattle.std.proofs.Common.{◌≡◌, ℕ, zero, suc, ◌<◌, List, [], ◌∷◌, length, map, slice_get, Some, subst}
use Rattle.net_model.specs.Exprs.{ExprModel, select}
use Rattle.sym_expr.specs.declared.pool.Node.{Node}
use Rattle.sym_expr.specs.Pools.{AllBelow, Grows, expr_of_id}
use Rattle.sym_expr.proofs.CallerLemmas.{same_expr}
use Rattle.transfer_set.specs.declared.route.Route.{Route}
use Rattle.route_trace.specs.declared.heads.Binary.{Binary}
use Rattle.route_trace.specs.declared.heads.Binary.TheVariants.{Select}
use Rattle.route_trace.specs.Inner.Heads.{binary_parts}
use Rattle.transfer_set.specs.Routes.{AllExprs}
use Rattle.route_trace.specs.Inner.Routing.{AllBinaryFit, each, pairs}
use Rattle.route_trace.specs.Inner.Selects.{AllSelectFit, under}
use Rattle.route_trace.proofs.Loops.{binary_below, all_fit_later}

pub binary_fit_later : (old new : List Node) → Grows old new → (binary : Binary) → AllBelow (length old) (binary_parts binary) → (xs ys : List Route) → AllExprs (length old) xs → AllExprs (length old) ys → AllBinaryFit binary old xs ys → AllBinaryFit binary new xs ys
binary_fit_later old new g binary p [] ys e k f = tt
binary_fit_later old new g binary p (x ∷ xs) ys e k f = (all_fit_later old new g _ (binary_below (length old) binary x.expr e.0 p) ys k f.0, binary_fit_later old new g binary p xs ys e.1 k f.1)

pub select_fit_at : (pool : List Node) (xs ys zs : List Route) (i : ℕ) (c : Route) → slice_get xs i ≡ Some c → AllSelectFit pool xs ys zs → AllBinaryFit (Select c.expr) pool ys zs
select_fit_at pool [] ys zs i c at f = absurd (cc)
select_fit_at pool (x ∷ xs) ys zs zero c at f = (let e : x ≡ c = cc in subst (λ (r : Route). AllBinaryFit (Select r.expr) pool ys zs) e f.0)
select_fit_at pool (x ∷ xs) ys zs (suc i) c at f = select_fit_at pool xs ys zs i c at f.1

-- the choices under a selector, in a pool that grew
pub under_later : (old new : List Node) → Grows old new → (c : ℕ) → c < length old → (xs ys us vs : List ExprModel) → us ≡ xs → vs ≡ ys → pairs (Select c) (expr_of_id new) us vs ≡ under (expr_of_id old c) xs ys
under_later old new g c h xs ys us vs e f = let d = same_expr old new g c h in (λ j. each (λ a. map (select (d j) a) (f j)) (e j))
