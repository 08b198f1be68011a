-- The least cost, from the parts.
use Rattle.std.proofs.Common.{◌≡◌, ℕ, zero, suc, ◌+◌, ◌-◌, ◌<◌, ◌≤◌, List, [], ◌∷◌, length, refl, ap, subst, Option, Some, None, Bool, true, false, arith, nat_lt, ◌⊎◌, inl, inr}
use Rattle.std.specs.Prelude.{slice_get, remove, if◌then◌else◌}
use Rattle.std.proofs.lemmas.Bool.{cases_eq, ltb-true, ltb-false}
use Rattle.std.proofs.lemmas.Option.{slice_get_within}
use Rattle.net_model.specs.Exprs.{ExprModel}
use Rattle.form_model.specs.Forms.{FormModel}
use Rattle.form_model.specs.Matches.{MatchModel}
use Rattle.form_model.specs.CoverModels.{use_form, CoverOperandsModel, no_operands, operand_then, CoverCutsModel, no_cuts, cut_then, cost, operands_cost, cuts_cost}
use Rattle.form_model.specs.Covers.{StockModel, Operand, operands_of, cuts_of, cells_of_goal}
use Rattle.least_costs.specs.declared.limits.Limits.{Limits}
use Rattle.least_costs.specs.Subgoals.{KeepsTo, free, SubgoalModel, operand_subgoal, cut_subgoal, after, takes, IsSparing, AreSparing, AreStored}
use Rattle.least_costs.specs.Least.{AtMost, IsLeastWithin, IsLeast, OrderReached, IsLeastOrder, CutReached, IsLeastCut, FromReached, IsLeastFrom, FirstsBelow, FormReached, IsLeastForm, lesser, summed}

pub at_most_more : (o : Option ℕ) (m n : ℕ) → m ≤ n → AtMost o m → AtMost o n
at_most_more None m n le h = h
at_most_more (Some k) m n le h = omega arith

pub some_of : (o : Option ℕ) (n : ℕ) → AtMost o n → (m : ℕ) × (o ≡ Some m) × (m ≤ n)
some_of None n h = absurd h
some_of (Some m) n h = (m, refl, h)

pub both_at_most : (a b : Option ℕ) (m n : ℕ) → AtMost a m → AtMost b n → AtMost (summed a b) (m + n)
both_at_most None b m n h k = h
both_at_most (Some i) None m n h k = k
both_at_most (Some i) (Some j) m n h k = omega arith

lesser_least : (a b : Option ℕ) (n : ℕ) → AtMost a n ⊎ AtMost b n → AtMost (lesser a b) n
lesser_least None b n (inl h) = absurd h
lesser_least None b n (inr h) = h
lesser_least (Some k) None n (inl h) = h
lesser_least (Some k) None n (inr h) = absurd h
lesser_least (Some k) (Some m) n h = go (nat_lt m k) refl h
  where
    go : (b : Bool) → nat_lt m k ≡ b → (k ≤ n) ⊎ (m ≤ n) → AtMost (if b then Some m else Some k) n
    go true e (inl h) = let lt = ltb-true m k e in omega (arith, lt)
    go true e (inr h) = h
    go false e (inl h) = h
    go false e (inr h) = let le = ltb-false m k e in omega (arith, le)

lesser_is : (P : Option ℕ → Type 0) (a b : Option ℕ) → P a → P b → P (lesser a b)
lesser_is P None b pa pb = pb
lesser_is P (Some m) None pa pb = pa
lesser_is P (Some m) (Some n) pa pb = elim (nat_lt n m) as (λ v. P (if v then Some n else Some m)) [ true ↦ pb | false ↦ pa ]

-- ---- cuts

module _ (stock : StockModel) where
  pub cut_none : (ts : List ExprModel) → ts ≡ [] → IsLeastCut stock ts (Some 0)
  cut_none ts e = record { reached = (no_cuts, e, refl); least = λ cs h. omega arith }

  pub cut_more : (t : ExprModel) (ts : List ExprModel) (a b : Option ℕ) → IsLeast stock (free stock) (cut_subgoal t) a → IsLeastCut stock ts b → IsLeastCut stock (t ∷ ts) (summed a b)
  cut_more t ts a b la lb = record { reached = made a b la.reached lb.reached; least = go }
    where
      made : (a b : Option ℕ) → IsLeastWithin stock (free stock) (cut_subgoal t) a → CutReached stock ts b → CutReached stock (t ∷ ts) (summed a b)
      made None b ra rb = tt
      made (Some m) None ra rb = tt
      made (Some m) (Some n) (p, sparing, e) (cs, stored, e') = (cut_then p cs, (t, ts, refl, sparing, stored), omega (arith, e, e'))

      go : (cs : CoverCutsModel) → AreStored stock (t ∷ ts) cs → AtMost (summed a b) (cuts_cost cs)
      go no_cuts e = absurd (cc)
      go (cut_then p cs) (u, us, e, sparing, stored) =
          let same : u ≡ t = cc in
          let same' : us ≡ ts = cc in
          both_at_most a b (cost p) (cuts_cost cs) (la.least p (subst (λ x. IsSparing stock (free stock) (cut_subgoal x) p) same sparing)) (lb.least cs (subst (λ xs. AreStored stock xs cs) same' stored))

-- ---- orders of operands

module _ (stock : StockModel) (limits : Limits) (ops : List Operand) where
  pub order_more : (i : ℕ) (best from : Option ℕ) → OrderReached stock limits ops best → FirstsBelow stock limits ops i best → IsLeastFrom stock limits ops i from → OrderReached stock limits ops (lesser best from) × FirstsBelow stock limits ops (i + 1) (lesser best from)
  order_more i best from reached firsts is = (
    lesser_is (OrderReached stock limits ops) best from reached (from_order from is.reached),
    λ j p ps lt orders. elim (cases_eq j i) [
      | inl at ↦ lesser_least best from (cost p + operands_cost ps) (inr (is.least p ps (subst (λ x. AreSparing stock limits ops (operand_then x p ps)) at orders)))
      | inr other ↦ lesser_least best from (cost p + operands_cost ps) (inl (firsts j p ps (omega arith) orders))
    ],
  )
    where
      from_order : (o : Option ℕ) → FromReached stock limits ops i o → OrderReached stock limits ops o
      from_order None h = tt
      from_order (Some n) (p, ps, orders, e) = (operand_then i p ps, orders, e)

  pub order_all : (best : Option ℕ) → 0 < length ops → OrderReached stock limits ops best → FirstsBelow stock limits ops (length ops) best → IsLeastOrder stock limits ops best
  order_all best some reached firsts = record { reached = reached; least = all }
    where
      all : (ps : CoverOperandsModel) → AreSparing stock limits ops ps → AtMost best (operands_cost ps)
      all no_operands none = absurd (let n = ap length none in omega (arith, n))
      all (operand_then i p ps) (o, get, sparing, orders) = firsts i p ps (slice_get_within ops i o get) (o, get, sparing, orders)

  pub order_none : ops ≡ [] → IsLeastOrder stock limits ops (Some 0)
  order_none e = record { reached = (no_operands, e, refl); least = λ ps h. omega arith }

  pub from_parts : (i : ℕ) (o : Operand) (m n : Option ℕ) → slice_get ops i ≡ Some o → IsLeast stock limits (operand_subgoal o) m → IsLeastOrder stock (after limits o.home) (remove ops i) n → IsLeastFrom stock limits ops i (summed m n)
  from_parts i o None n get a b = record { reached = tt; least = λ p ps (o', get', sparing, orders). let e : o' ≡ o = cc in a.least p (subst (λ x. IsSparing stock limits (operand_subgoal x) p) e sparing) }
  from_parts i o (Some m) None get a b = record { reached = tt; least = λ p ps (o', get', sparing, orders). let e : o' ≡ o = cc in b.least ps (subst (λ (x : Operand). AreSparing stock (after limits x.home) (remove ops i) ps) e orders) }
  from_parts i o (Some m) (Some n) get a b = record {
    reached = let (p, sparing, ep) = a.reached in let (ps, orders, eo) = b.reached in (p, ps, (o, get, sparing, orders), omega (arith, ep, eo));
    least = λ p ps (o', get', sparing, orders).
        let e : o' ≡ o = cc in
        let h = a.least p (subst (λ x. IsSparing stock limits (operand_subgoal x) p) e sparing) in
        let k = b.least ps (subst (λ (x : Operand). AreSparing stock (after limits x.home) (remove ops i) ps) e orders) in
        omega (arith, h, k);
  }

  -- an operand that has no cover begins no order
  pub from_none : (i : ℕ) (o : Operand) → slice_get ops i ≡ Some o → IsLeast stock limits (operand_subgoal o) None → IsLeastFrom stock limits ops i None
  from_none i o get a = record { reached = tt; least = λ p ps (o', get', sparing, orders). let e : o' ≡ o = cc in a.least p (subst (λ x. IsSparing stock limits (operand_subgoal x) p) e sparing) }

  none_left : (i : ℕ) (o : Operand) (os : List Operand) → slice_get os i ≡ Some o → length os ≡ 1 → remove os i ≡ []
  none_left i o [] get one = absurd (omega (arith, one))
  none_left zero o (x ∷ []) get one = refl
  none_left (suc i) o (x ∷ []) get one = absurd (cc)
  none_left i o (x ∷ y ∷ os) get one = absurd (omega (arith, one))

  -- the only operand
  pub from_last : (i : ℕ) (o : Operand) (m : ℕ) → slice_get ops i ≡ Some o → length ops ≡ 1 → IsLeast stock limits (operand_subgoal o) (Some m) → IsLeastFrom stock limits ops i (Some m)
  from_last i o m get one a =
      let empty = none_left i o ops get one in
      let rest : IsLeastOrder stock (after limits o.home) (remove ops i) (Some 0) = record { reached = (no_operands, empty, refl); least = λ ps h. omega arith } in
      let e : m + 0 ≡ m = omega arith in subst (λ n. IsLeastFrom stock limits ops i (Some n)) e (from_parts i o (Some m) (Some 0) get a rest)

-- one operand has one order
pub order_one : (stock : StockModel) (limits : Limits) (o : Operand) (m : Option ℕ) → IsLeast stock limits (operand_subgoal o) m → IsLeastOrder stock limits (o ∷ []) m
order_one stock limits o m a = record { reached = made m a.reached; least = go }
  where
    made : (m : Option ℕ) → IsLeastWithin stock limits (operand_subgoal o) m → OrderReached stock limits (o ∷ []) m
    made None r = tt
    made (Some n) (p, sparing, e) = (operand_then 0 p no_operands, (o, refl, sparing, refl), omega (arith, e))

    go : (ps : CoverOperandsModel) → AreSparing stock limits (o ∷ []) ps → AtMost m (operands_cost ps)
    go no_operands e = absurd (cc)
    go (operand_then zero p ps) (u, get, sparing, orders) =
        let e : u ≡ o = cc in at_most_more m (cost p) (cost p + operands_cost ps) (omega arith) (a.least p (subst (λ x. IsSparing stock limits (operand_subgoal x) p) e sparing))
    go (operand_then (suc i) p ps) (u, get, sparing, orders) = absurd (cc)

-- the other one of two operands
pub other_left : (ops : List Operand) (i : ℕ) (o : Operand) → length ops ≡ 2 → i < 2 → slice_get ops (1 - i) ≡ Some o → remove ops i ≡ o ∷ []
other_left [] i o two lt get = absurd (cc)
other_left (x ∷ []) i o two lt get = absurd (cc)
other_left (x ∷ y ∷ []) zero o two lt get = let e : y ≡ o = cc in ap (λ z. z ∷ []) e
other_left (x ∷ y ∷ []) (suc zero) o two lt get = let e : x ≡ o = cc in ap (λ z. z ∷ []) e
other_left (x ∷ y ∷ []) (suc (suc i)) o two lt get = absurd (omega (arith, lt))
other_left (x ∷ y ∷ z ∷ ops) i o two lt get = absurd (omega (arith, two))

-- ---- forms

module _ (stock : StockModel) (limits : Limits) (ask : SubgoalModel) (k : ℕ) where
  -- a form that can't stand here
  pub no_form : ((form : FormModel) (found : MatchModel) → slice_get stock.forms k ≡ Some form → KeepsTo limits form.clobbers (cells_of_goal form.goal) → takes stock form ask ≡ Some found → ⊥) → IsLeastForm stock limits ask k None
  no_form never = record { reached = tt; least = λ ps cs (form, get, spared, found, is, orders, stored). never form found get spared is }

  pub some_form : (form : FormModel) (found : MatchModel) (o u : Option ℕ) → slice_get stock.forms k ≡ Some form → KeepsTo limits form.clobbers (cells_of_goal form.goal) → takes stock form ask ≡ Some found → IsLeastOrder stock limits (operands_of found.leaves) o → IsLeastCut stock (cuts_of found.leaves) u → IsLeastForm stock limits ask k (summed (summed (Some 1) o) u)
  some_form form found o u get spared takes_it is cut = record { reached = made o u is.reached cut.reached; least = go }
    where
      made : (o u : Option ℕ) → OrderReached stock limits (operands_of found.leaves) o → CutReached stock (cuts_of found.leaves) u → FormReached stock limits ask k (summed (summed (Some 1) o) u)
      made None u ro ru = tt
      made (Some m) None ro ru = tt
      made (Some m) (Some n) (ps, orders, e) (cs, stored, e') = (ps, cs, (form, get, spared, found, takes_it, orders, stored), omega (arith, e, e'))

      go : (ps : CoverOperandsModel) (cs : CoverCutsModel) → IsSparing stock limits ask (use_form k ps cs) → AtMost (summed (summed (Some 1) o) u) (1 + operands_cost ps + cuts_cost cs)
      go ps cs (form', get', spared', found', takes', orders, stored) =
          let same : form' ≡ form = cc in
          let t : takes stock form ask ≡ Some found' = subst (λ r. takes stock r ask ≡ Some found') same takes' in
          let same' : found' ≡ found = cc in
          both_at_most (summed (Some 1) o) u (1 + operands_cost ps) (cuts_cost cs)
          (both_at_most (Some 1) o 1 (operands_cost ps) (omega arith) (is.least ps (subst (λ (f : MatchModel). AreSparing stock limits (operands_of f.leaves) ps) same' orders)))
          (cut.least cs (subst (λ (f : MatchModel). AreStored stock (cuts_of f.leaves) cs) same' stored))
