-- What is found out about the limits, net by net.
use Rattle.std.specs.Prelude.{◌≡◌, ℕ, ◌+◌, ◌<◌, ◌≤◌, Bool, true, false, List, [], ◌∷◌, length, Option, Some, None, slice_get, slice_index_or}
use Rattle.std.specs.List.{AllByRecursion}
use Rattle.net_model.specs.declared.hardware.Netlist.{Netlist}
use Rattle.net_model.specs.Depends.{Depends, named_by}
use Rattle.net_model.specs.Exprs.{size_of}
use Rattle.sym_expr.specs.declared.pool.Node.{Node}
use Rattle.sym_expr.specs.Pools.{expr_of_id}
use Rattle.transfer_set.specs.declared.route.Route.{Route}
use Rattle.route_trace.specs.declared.RouteFault.{RouteFault}
use Rattle.route_trace.specs.declared.RouteFault.TheVariants.{PatternLarge, TooMany}
use Rattle.route_trace.specs.declared.verdict.Verdict.{Verdict}
use Rattle.route_trace.specs.declared.verdict.Verdict.TheVariants.{Kept, Large, Many, Skipped}
use Rattle.route_trace.specs.Limits.{HasMany, IsBroken, IsFirstBroken, IsLarge}

-- a route of more than 255 nodes
pub record HasLarge (pool : List Node) (routes : List Route) : Type 0 where
  pub place : ℕ
  pub route : Route
  pub at : slice_get routes place ≡ Some route
  pub large : 255 < size_of (expr_of_id pool route.expr)

-- what the routes of a net tell
abbrev pub IsJudged : List Node → List Route → Verdict → Type 0
IsJudged pool routes Kept =
    (length routes ≤ 4096)
    × AllByRecursion (λ (route : Route). size_of (expr_of_id pool route.expr) ≤ 255) routes
IsJudged pool routes Large = (length routes ≤ 4096) × HasLarge pool routes
IsJudged pool routes Many = 4096 < length routes
IsJudged pool routes Skipped = ⊥

-- a net that the net depends on is the first of its cone to break a limit
pub record HasBroken (netlist : Netlist) (n : ℕ) : Type 0 where
  pub net : ℕ
  pub below : Depends (named_by netlist) n net
  pub first : IsFirstBroken netlist net

-- what a verdict says of its net
abbrev pub IsFound : Netlist → ℕ → Verdict → Type 0
IsFound netlist n Kept = (IsBroken netlist n → ⊥) × ((m : ℕ) → Depends (named_by netlist) n m → IsBroken netlist m → ⊥)
IsFound netlist n Large = IsFirstBroken netlist n × IsLarge netlist n × (HasMany netlist n → ⊥)
IsFound netlist n Many = IsFirstBroken netlist n × HasMany netlist n
IsFound netlist n Skipped = HasBroken netlist n

abbrev pub is_kept : Verdict → Bool
is_kept Kept = true
is_kept Large = false
is_kept Many = false
is_kept Skipped = false

-- the verdict of a net, and that of a net that was skipped where there is none
abbrev pub verdict_at : List Verdict → ℕ → Verdict
verdict_at verdicts n = slice_index_or verdicts n Skipped

abbrev pub kept_at : List Verdict → ℕ → Bool
kept_at verdicts n = is_kept (verdict_at verdicts n)

-- the refusal that a verdict gives
abbrev pub fault_of : ℕ → Verdict → Option RouteFault
fault_of n Kept = None
fault_of n Large = Some (PatternLarge n)
fault_of n Many = Some (TooMany n)
fault_of n Skipped = None

abbrev pub or_else : Option RouteFault → Option RouteFault → Option RouteFault
or_else None other = other
or_else (Some fault) other = Some fault

-- the refusal of the first net that has one, where the first of the verdicts is that of net n
abbrev pub first_fault : ℕ → List Verdict → Option RouteFault
first_fault n [] = None
first_fault n (verdict ∷ verdicts) = or_else (fault_of n verdict) (first_fault (n + 1) verdicts)
