-- What no order of operands costs less than.
use Rattle.std.proofs.Common.{◌≡◌, ℕ, zero, suc, ◌+◌, ◌≤◌, List, ◌∷◌, Option, Some, arith, refl, sym, ◌∙◌, subst}
use Rattle.std.specs.Prelude.{bit_and, bit_or, remove}
use Rattle.std.proofs.lemmas.Nat.{and_comm}
use Rattle.form_model.specs.CoverModels.{CoverModel, use_form, CoverOperandsModel, no_operands, operand_then, cost, operands_cost}
use Rattle.form_model.specs.Matches.{HomeModel}
use Rattle.form_model.specs.Covers.{StockModel, Operand, home_set}
use Rattle.least_costs.specs.declared.limits.Limits.{Limits}
use Rattle.least_costs.specs.Subgoals.{SubgoalModel, operand_subgoal, after, IsSparing, AreSparing}
use Rattle.least_costs.specs.Least.{AtMost, IsLeast, IsFloor, summed}
use Rattle.least_costs.proofs.OrderlyLemmas.{apart_left, apart_right, apart_both}
use Rattle.least_costs.proofs.LeastLemmas.{both_at_most}

-- what keeps to the one keeps to the other
record Spares (big small : Limits) : Type 0 where
  apart : (c : ℕ) → bit_and c big.avoid ≡ 0 → bit_and c small.avoid ≡ 0
  more : big.allowed ≤ small.allowed

with_more : (big small : Limits) (home : HomeModel) → Spares big small → Spares (after big home) (after small home)
with_more big small home s = record {
  apart = λ c h.
      let y = home_set home in
      let h' : bit_and (bit_or big.avoid y) c ≡ 0 = and_comm (bit_or big.avoid y) c ∙ h in
      let mine : bit_and small.avoid c ≡ 0 = and_comm small.avoid c ∙ s.apart c (and_comm c big.avoid ∙ apart_left big.avoid y c h') in
      and_comm c (bit_or small.avoid y) ∙ apart_both small.avoid y c mine (apart_right big.avoid y c h');
  more = (let m = s.more in omega (arith, m));
}

spares_old : (limits : Limits) (home : HomeModel) → Spares (after limits home) limits
spares_old limits home = record {
  apart = λ c h. and_comm c limits.avoid ∙ apart_left limits.avoid (home_set home) c (and_comm (after limits home).avoid c ∙ h);
  more = omega arith;
}

-- a cover that keeps to narrower limits keeps to wider ones
mutual
  sparing_less : (stock : StockModel) (p : CoverModel) (ask : SubgoalModel) (big small : Limits) → Spares big small → IsSparing stock big ask p → IsSparing stock small ask p
  sparing_less stock (use_form k ps cs) ask big small s (form, listed, spared, found, m, orders, stored) =
      (form, listed, (s.apart form.clobbers spared.0, (let a = spared.1 in let b = s.more in omega (arith, a, b))), found, m, all_less stock ps _ big small s orders, stored)

  all_less : (stock : StockModel) (ps : CoverOperandsModel) (ops : List Operand) (big small : Limits) → Spares big small → AreSparing stock big ops ps → AreSparing stock small ops ps
  all_less stock no_operands ops big small s e = e
  all_less stock (operand_then i p ps) ops big small s (o, get, sparing, orders) =
      (o, get, sparing_less stock p (operand_subgoal o) big small s sparing, all_less stock ps (remove ops i) (after big o.home) (after small o.home) (with_more big small o.home s) orders)

-- an order has a cover of the first operand, and without it is one of the others
drop_first : (stock : StockModel) (ps : CoverOperandsModel) (limits : Limits) (x : Operand) (xs : List Operand) → AreSparing stock limits (x ∷ xs) ps → (p : CoverModel) × (qs : CoverOperandsModel) × IsSparing stock limits (operand_subgoal x) p × AreSparing stock limits xs qs × (operands_cost ps ≡ cost p + operands_cost qs)
drop_first stock no_operands limits x xs e = absurd (cc)
drop_first stock (operand_then zero p ps) limits x xs (o, get, sparing, orders) =
    let e : x ≡ o = cc in
    (p, ps, subst (λ y. IsSparing stock limits (operand_subgoal y) p) (sym e) sparing, all_less stock ps xs (after limits o.home) limits (spares_old limits o.home) orders, refl)
drop_first stock (operand_then (suc i) p ps) limits x xs (o, get, sparing, orders) =
    let (q, qs, first, others, e) = drop_first stock ps (after limits o.home) x (remove xs i) orders in
    (q, operand_then i p qs, sparing_less stock q (operand_subgoal x) (after limits o.home) limits (spares_old limits o.home) first, (o, get, sparing, others), omega (arith, e))

pub floor_none : (stock : StockModel) (limits : Limits) (ops : List Operand) → IsFloor stock limits ops (Some 0)
floor_none stock limits ops = λ ps h. omega arith

pub floor_more : (stock : StockModel) (limits : Limits) (x : Operand) (xs : List Operand) (m n : Option ℕ) → IsLeast stock limits (operand_subgoal x) m → IsFloor stock limits xs n → IsFloor stock limits (x ∷ xs) (summed m n)
floor_more stock limits x xs m n is floor = λ ps h.
    let (p, qs, first, others, e) = drop_first stock ps limits x xs h in
    subst (AtMost (summed m n)) (sym e) (both_at_most m n (cost p) (operands_cost qs) (is.least p first) (floor qs others))
