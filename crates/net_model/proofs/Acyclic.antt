-- Where there is an order, no net depends on itself.
use Rattle.std.proofs.Common.{ℕ, ◌<◌, List, [], ◌∷◌, inl, inr, sym, subst, arith}
use Rattle.std.specs.List.{AllByRecursion}
use Rattle.net_model.specs.declared.hardware.Netlist.{Netlist}
use Rattle.net_model.specs.Order.{position_of, IsOrder}
use Rattle.net_model.specs.Depends.{Among, Depends, direct, via, named_by, IsAcyclic}

-- what holds of each of a list holds of one of it
pub all_among : (P : ℕ → Type 0) (m : ℕ) (ms : List ℕ) → AllByRecursion P ms → Among m ms → P m
all_among P m [] h a = absurd a
all_among P m (x ∷ xs) h (inl e) = subst P (sym e) h.0
all_among P m (x ∷ xs) h (inr a) = all_among P m xs h.1 a

module _ (netlist : Netlist) (order : List ℕ) (o : IsOrder netlist order) where
  -- a net stands behind those that it depends on
  pub falls_along : (a b : ℕ) → Depends (named_by netlist) a b → position_of order b < position_of order a
  falls_along a b (direct h) = all_among (λ m. position_of order m < position_of order a) b _ (o.falls a) h
  falls_along a c (via {b = b} h d) =
      let k : position_of order b < position_of order a = all_among (λ m. position_of order m < position_of order a) b _ (o.falls a) h in
      let l : position_of order c < position_of order b = falls_along b c d in
      omega arith

  pub acyclic_of : IsAcyclic netlist
  acyclic_of n d = let k : position_of order n < position_of order n = falls_along n n d in absurd (omega (arith, k))
