-- The first cover, from the parts.
use Rattle.std.proofs.Common.{◌≡◌, ◌≢◌, ℕ, ◌+◌, ◌-◌, ◌<◌, ◌≤◌, List, [], ◌∷◌, length, refl, sym, ap, subst, Option, Some, None, arith, ◌⊎◌, inl, inr}
use Rattle.std.specs.Prelude.{slice_get, remove, IfSome, IfNone}
use Rattle.std.proofs.lemmas.Bool.{cases_eq, cases_lt}
use Rattle.std.proofs.lemmas.Option.{slice_get_within}
use Rattle.net_model.specs.Exprs.{ExprModel}
use Rattle.form_model.specs.Matches.{MatchModel}
use Rattle.form_model.specs.CoverModels.{CoverModel, use_form, CoverOperandsModel, no_operands, operand_then, CoverCutsModel, no_cuts, cut_then, cost, operands_cost, cuts_cost}
use Rattle.form_model.specs.Covers.{StockModel, Operand, operands_of, cuts_of, IsBefore, CutsBefore, SamePlaces}
use Rattle.least_costs.specs.declared.limits.Limits.{Limits}
use Rattle.least_costs.specs.Subgoals.{free, SubgoalModel, operand_subgoal, cut_subgoal, after, takes, IsSparing, AreSparing, AreStored}
use Rattle.least_costs.specs.Least.{IsLeast, IsLeastForm, IsLeastOrder, IsLeastCut}
use Rattle.least_costs.specs.Fits.{Fits}
use Rattle.cover.specs.Inner.Choice.{NeverBegins, Starts, StartsCut, IsFirst, OrderBefore, IsFirstOrder, IsFirstCuts}
use Rattle.least_costs.proofs.LeastLemmas.{some_of}

pub cost_pos : (p : CoverModel) → 0 < cost p
cost_pos (use_form k ps cs) = omega arith

same_places : (ps : CoverOperandsModel) → SamePlaces ps ps
same_places no_operands = tt
same_places (operand_then i p ps) = (refl, same_places ps)

pub some_none : {o : Option ℕ} {m : ℕ} → o ≡ Some m → o ≡ None → ⊥
some_none e f = cc

-- a form whose least cost differs from the least cost of all begins no cover of that cost
pub never_by : (stock : StockModel) (limits : Limits) (ask : SubgoalModel) (n k : ℕ) (o : Option ℕ) → IsLeast stock limits ask (Some n) → IsLeastForm stock limits ask k o → ((m : ℕ) → o ≡ Some m → m ≢ n) → NeverBegins stock limits ask n k
never_by stock limits ask n k None least is differ = λ ps cs sparing e. is.least ps cs sparing
never_by stock limits ask n k (Some m) least is differ = λ ps cs sparing e.
    let le = is.least ps cs sparing in
    let (ps0, cs0, sparing0, e0) = is.reached in
    let ge = least.least (use_form k ps0 cs0) sparing0 in
    differ m refl (omega (arith, le, ge, e, e0))

module _ (stock : StockModel) (limits : Limits) (ask : SubgoalModel) (n : ℕ) (least : IsLeast stock limits ask (Some n)) where
  pub cover_exists : ((j : ℕ) → j < length stock.forms → NeverBegins stock limits ask n j) → ⊥
  cover_exists none = go least.reached.0 least.reached.1 least.reached.2
    where
      go : (p : CoverModel) → IsSparing stock limits ask p → cost p ≡ n → ⊥
      go (use_form j ps cs) (form, get, spared, found, is, orders, stored) e = none j (slice_get_within stock.forms j form get) ps cs (form, get, spared, found, is, orders, stored) e

  -- parts of one form's covers, compared
  join : (k l : ℕ) (ps qs : CoverOperandsModel) (cs ds : CoverCutsModel) → k ≡ l → (ps ≡ qs) ⊎ OrderBefore ps qs → (cs ≡ ds) ⊎ CutsBefore cs ds → (use_form k ps cs ≡ use_form l qs ds) ⊎ IsBefore (use_form k ps cs) (use_form l qs ds)
  join k l ps qs cs ds at (inl e) (inl f) = inl (cc)
  join k l ps qs cs ds at (inl e) (inr b) = inr (inr (at, inr (subst (SamePlaces ps) e (same_places ps), inr (e, b))))
  join k l ps qs cs ds at (inr (inl s)) c = inr (inr (at, inl s))
  join k l ps qs cs ds at (inr (inr (same, b))) c = inr (inr (at, inr (same, inl b)))

  pub first_by_form : (k : ℕ) (inputs : List Operand) (stored : List ExprModel) (a b : ℕ) (ps : CoverOperandsModel) (cs : CoverCutsModel) → ((j : ℕ) → j < k → NeverBegins stock limits ask n j) → Fits stock limits ask k inputs stored a b → 1 + a + b ≡ n → IsFirstOrder stock limits inputs ps → IsFirstCuts stock stored cs → IsFirst stock limits ask (use_form k ps cs)
  first_by_form k inputs stored a b ps cs earlier fits sum order cuts = record {
    sparing = (fits.form, fits.listed, fits.spared, fits.found, fits.takes_it, subst (λ l. AreSparing stock limits l ps) fits.operands_are order.sparing, subst (λ l. AreStored stock l cs) fits.cuts_are cuts.covered);
    first = go;
  }
    where
      cost_a : operands_cost ps ≡ a
      cost_a =
          let (ps0, orders0, e0) = fits.order.reached in
          let h = fits.order.least ps order.sparing in
          elim (order.first ps0 orders0) [ inl lt ↦ omega (arith, lt, h, e0) | inr eq ↦ (let e = eq.0 in omega (arith, e, e0)) ]

      cost_b : cuts_cost cs ≡ b
      cost_b =
          let (cs0, stored0, e0) = fits.cut.reached in
          let h = fits.cut.least cs cuts.covered in
          elim (cuts.first cs0 stored0) [ inl lt ↦ omega (arith, lt, h, e0) | inr eq ↦ (let e = eq.0 in omega (arith, e, e0)) ]

      at_same : (l : ℕ) (qs : CoverOperandsModel) (ds : CoverCutsModel) → k ≡ l → AreSparing stock limits inputs qs → AreStored stock stored ds → (cost (use_form k ps cs) < cost (use_form l qs ds)) ⊎ ((cost (use_form k ps cs) ≡ cost (use_form l qs ds)) × ((use_form k ps cs ≡ use_form l qs ds) ⊎ IsBefore (use_form k ps cs) (use_form l qs ds)))
      at_same l qs ds same orders stored' =
          let la = fits.order.least qs orders in
          let lb = fits.cut.least ds stored' in
          let ea = cost_a in
          let eb = cost_b in
          elim (order.first qs orders) [
            | inl lt ↦ inl (omega (arith, lt, lb, eb))
            | inr eq ↦ elim (cuts.first ds stored') [
              | inl lt ↦ inl (omega (arith, lt, la, ea))
              | inr eq' ↦ inr ((let x = eq.0 in let y = eq'.0 in omega (arith, x, y)), join k l ps qs cs ds same eq.1 eq'.1)
            ]
          ]

      go : (q : CoverModel) → IsSparing stock limits ask q → (cost (use_form k ps cs) < cost q) ⊎ ((cost (use_form k ps cs) ≡ cost q) × ((use_form k ps cs ≡ q) ⊎ IsBefore (use_form k ps cs) q))
      go (use_form l qs ds) (form, get, spared, found, is, orders, stored') =
          let all = least.least (use_form l qs ds) (form, get, spared, found, is, orders, stored') in
          let ea = cost_a in
          let eb = cost_b in
          elim (cases_lt l k) [
            | inl lt ↦ inl (let ne = earlier l lt qs ds (form, get, spared, found, is, orders, stored') in omega (arith, all, ne, ea, eb, sum))
            | inr ge ↦ elim (cases_eq k l) [
              | inl same ↦
                  (let e : form ≡ fits.form = (let x = fits.listed in let y : slice_get stock.forms k ≡ Some form = subst (λ j. slice_get stock.forms j ≡ Some form) (sym same) get in cc) in
                  let is' : takes stock fits.form ask ≡ Some found = subst (λ r. takes stock r ask ≡ Some found) e is in
                  let e' : found ≡ fits.found = (let x = fits.takes_it in cc) in
                  at_same l qs ds same
                  (subst (λ x. AreSparing stock limits x qs) (sym fits.operands_are) (subst (λ (f : MatchModel). AreSparing stock limits (operands_of f.leaves) qs) e' orders))
                  (subst (λ x. AreStored stock x ds) (sym fits.cuts_are) (subst (λ (f : MatchModel). AreStored stock (cuts_of f.leaves) ds) e' stored')))
              | inr other ↦ elim (cases_eq (1 + operands_cost ps + cuts_cost cs) (1 + operands_cost qs + cuts_cost ds)) [
                | inl equal ↦ inr (equal, inr (inl (omega arith)))
                | inr differ ↦ inl (omega (arith, all, ea, eb, sum, differ))
              ]
            ]
          ]

module _ (stock : StockModel) (limits : Limits) (ops : List Operand) (n : ℕ) (least : IsLeastOrder stock limits ops (Some n)) where
  pub first_of_sum : (i : ℕ) (o : Operand) (a b r : Option ℕ) → slice_get ops i ≡ Some o → IsLeast stock limits (operand_subgoal o) a → IsLeastOrder stock (after limits o.home) (remove ops i) b → IfSome r (λ m. (a ≡ Some m) × (m ≤ n) × (b ≡ Some (n - m))) → IfNone r ((j k : ℕ) → a ≡ Some j → b ≡ Some k → j + k ≢ n) → Starts stock limits ops n i r
  first_of_sum i o a b (Some m) get la lb (ea, le, eb) no_sum =
      let la' : IsLeast stock limits (operand_subgoal o) (Some m) = subst (IsLeast stock limits (operand_subgoal o)) ea la in
      let lb' : IsLeastOrder stock (after limits o.home) (remove ops i) (Some (n - m)) = subst (IsLeastOrder stock (after limits o.home) (remove ops i)) eb lb in
      let (p, sparing, e) = la'.reached in
      (o, get, (let h = cost_pos p in omega (arith, h, e)), le, la', lb')
  first_of_sum i o a b None get la lb some differ = λ p ps (o', get', sparing, orders) e.
      let same : o' ≡ o = cc in
      let (j, ej, lj) = some_of a (cost p) (la.least p (subst (λ x. IsSparing stock limits (operand_subgoal x) p) same sparing)) in
      let (k, ek, lk) = some_of b (operands_cost ps) (lb.least ps (subst (λ (x : Operand). AreSparing stock (after limits x.home) (remove ops i) ps) same orders)) in
      let la' : IsLeast stock limits (operand_subgoal o) (Some j) = subst (IsLeast stock limits (operand_subgoal o)) ej la in
      let lb' : IsLeastOrder stock (after limits o.home) (remove ops i) (Some k) = subst (IsLeastOrder stock (after limits o.home) (remove ops i)) ek lb in
      let (p0, sparing0, e0) = la'.reached in
      let (ps0, orders0, f0) = lb'.reached in
      let all = least.least (operand_then i p0 ps0) (o, get, sparing0, orders0) in
      differ j k ej ek (omega (arith, all, e0, f0, lj, lk, e))

  pub order_exists : 0 < length ops → ((j : ℕ) (p : CoverModel) (ps : CoverOperandsModel) → j < length ops → AreSparing stock limits ops (operand_then j p ps) → cost p + operands_cost ps ≢ n) → ⊥
  order_exists some none = go least.reached.0 least.reached.1 least.reached.2
    where
      go : (ps : CoverOperandsModel) → AreSparing stock limits ops ps → operands_cost ps ≡ n → ⊥
      go no_operands empty e = let h = ap length empty in absurd (omega (arith, h, some))
      go (operand_then j p ps) (o, get, sparing, orders) e = none j p ps (slice_get_within ops j o get) (o, get, sparing, orders) e

  -- the same first operand: the rest decides
  combine : (i j : ℕ) (p q : CoverModel) (ps qs : CoverOperandsModel) → i ≡ j → (p ≡ q) ⊎ IsBefore p q → (ps ≡ qs) ⊎ OrderBefore ps qs → (operand_then i p ps ≡ operand_then j q qs) ⊎ OrderBefore (operand_then i p ps) (operand_then j q qs)
  combine i j p q ps qs at (inl e) (inl e') = inl (cc)
  combine i j p q ps qs at (inr b) (inl e') = inr (inr ((at, subst (SamePlaces ps) e' (same_places ps)), inl b))
  combine i j p q ps qs at h (inr (inl sooner)) = inr (inl (inr (at, sooner)))
  combine i j p q ps qs at (inl e) (inr (inr (same, before))) = inr (inr ((at, same), inr (e, before)))
  combine i j p q ps qs at (inr b) (inr (inr (same, before))) = inr (inr ((at, same), inl b))

  pub first_by_operand : (i m : ℕ) (o : Operand) (p : CoverModel) (ps : CoverOperandsModel) → ((j : ℕ) (q : CoverModel) (qs : CoverOperandsModel) → j < i → AreSparing stock limits ops (operand_then j q qs) → cost q + operands_cost qs ≢ n) → slice_get ops i ≡ Some o → m ≤ n → IsLeast stock limits (operand_subgoal o) (Some m) → IsLeastOrder stock (after limits o.home) (remove ops i) (Some (n - m)) → IsFirst stock limits (operand_subgoal o) p → IsFirstOrder stock (after limits o.home) (remove ops i) ps → IsFirstOrder stock limits ops (operand_then i p ps)
  first_by_operand i m o p ps earlier get le la lb fp fps = record { sparing = (o, get, fp.sparing, fps.sparing); first = go }
    where
      cost_p : cost p ≡ m
      cost_p =
          let (p0, sparing0, e0) = la.reached in
          let h = la.least p fp.sparing in
          elim (fp.first p0 sparing0) [ inl lt ↦ omega (arith, lt, h, e0) | inr eq ↦ (let e = eq.0 in omega (arith, e, e0)) ]

      cost_ps : operands_cost ps ≡ n - m
      cost_ps =
          let (ps0, orders0, e0) = lb.reached in
          let h = lb.least ps fps.sparing in
          elim (fps.first ps0 orders0) [ inl lt ↦ omega (arith, lt, h, e0) | inr eq ↦ (let e = eq.0 in omega (arith, e, e0)) ]

      at_same : (j : ℕ) (q : CoverModel) (qs : CoverOperandsModel) (o' : Operand) → i ≡ j → slice_get ops j ≡ Some o' → IsSparing stock limits (operand_subgoal o') q → AreSparing stock (after limits o'.home) (remove ops j) qs → (cost p + operands_cost ps < cost q + operands_cost qs) ⊎ ((cost p + operands_cost ps ≡ cost q + operands_cost qs) × ((operand_then i p ps ≡ operand_then j q qs) ⊎ OrderBefore (operand_then i p ps) (operand_then j q qs)))
      at_same j q qs o' same get' sparing orders =
          let e : o' ≡ o = (let g : slice_get ops i ≡ Some o' = subst (λ x. slice_get ops x ≡ Some o') (sym same) get' in cc) in
          let sparing' : IsSparing stock limits (operand_subgoal o) q = subst (λ x. IsSparing stock limits (operand_subgoal x) q) e sparing in
          let orders' : AreSparing stock (after limits o.home) (remove ops i) qs =
          subst (λ (x : Operand). AreSparing stock (after limits x.home) (remove ops i) qs) e (subst (λ x. AreSparing stock (after limits o'.home) (remove ops x) qs) (sym same) orders) in
          let hp = la.least q sparing' in
          let hps = lb.least qs orders' in
          let here = cost_p in
          let there = cost_ps in
          elim (fp.first q sparing') [
            | inl lt ↦ inl (omega (arith, lt, hps, there))
            | inr eq ↦ elim (fps.first qs orders') [
              | inl lt ↦ inl (omega (arith, lt, hp, here))
              | inr eq' ↦ inr ((let x = eq.0 in let y = eq'.0 in omega (arith, x, y)), combine i j p q ps qs same eq.1 eq'.1)
            ]
          ]

      go : (qs : CoverOperandsModel) → AreSparing stock limits ops qs → (cost p + operands_cost ps < operands_cost qs) ⊎ ((cost p + operands_cost ps ≡ operands_cost qs) × ((operand_then i p ps ≡ qs) ⊎ OrderBefore (operand_then i p ps) qs))
      go no_operands empty = absurd (let h = slice_get_within ops i o get in let l = ap length empty in omega (arith, h, l))
      go (operand_then j q qs) (o', get', sparing, orders) =
          let all = least.least (operand_then j q qs) (o', get', sparing, orders) in
          let here = cost_p in
          let there = cost_ps in
          elim (cases_lt j i) [
            | inl lt ↦ inl (let ne = earlier j q qs lt (o', get', sparing, orders) in omega (arith, all, ne, here, there, le))
            | inr ge ↦ elim (cases_eq i j) [
              | inl same ↦ at_same j q qs o' same get' sparing orders
              | inr other ↦ elim (cases_eq (cost p + operands_cost ps) (cost q + operands_cost qs)) [
                | inl equal ↦ inr (equal, inr (inl (inl (omega arith))))
                | inr differ ↦ inl (omega (arith, all, here, there, le, differ))
              ]
            ]
          ]

pub operands_later : (stock : StockModel) (limits : Limits) (ops : List Operand) (n i : ℕ) → ((j : ℕ) (p : CoverModel) (ps : CoverOperandsModel) → j < i → AreSparing stock limits ops (operand_then j p ps) → cost p + operands_cost ps ≢ n) → Starts stock limits ops n i None → (j : ℕ) (p : CoverModel) (ps : CoverOperandsModel) → j < i + 1 → AreSparing stock limits ops (operand_then j p ps) → cost p + operands_cost ps ≢ n
operands_later stock limits ops n i earlier here j p ps lt orders = elim (cases_eq j i) [
  | inl same ↦ here p ps (subst (λ x. AreSparing stock limits ops (operand_then x p ps)) same orders)
  | inr other ↦ earlier j p ps (omega arith) orders
]

pub empty_first : (stock : StockModel) (limits : Limits) (ops : List Operand) → ops ≡ [] → IsFirstOrder stock limits ops no_operands
empty_first stock limits ops e = record { sparing = e; first = go }
  where
    go : (qs : CoverOperandsModel) → AreSparing stock limits ops qs → (0 < operands_cost qs) ⊎ ((0 ≡ operands_cost qs) × ((no_operands ≡ qs) ⊎ OrderBefore no_operands qs))
    go no_operands empty = inr (refl, inl refl)
    go (operand_then j q qs) (o, get, sparing, orders) = absurd (let h = slice_get_within ops j o get in let l = ap length e in omega (arith, h, l))

-- ---- cuts

pub empty_cuts : (stock : StockModel) (ts : List ExprModel) → ts ≡ [] → IsFirstCuts stock ts no_cuts
empty_cuts stock ts e = record { covered = e; first = go }
  where
    go : (ds : CoverCutsModel) → AreStored stock ts ds → (0 < cuts_cost ds) ⊎ ((0 ≡ cuts_cost ds) × ((no_cuts ≡ ds) ⊎ CutsBefore no_cuts ds))
    go no_cuts empty = inr (refl, inl refl)
    go (cut_then q ds) (t, us, f, sparing, stored) = absurd (cc)

-- the first cut's least cost is a part of the least cost of all
pub starts_cut : (stock : StockModel) (t : ExprModel) (ts : List ExprModel) (n : ℕ) (a : Option ℕ) → IsLeastCut stock (t ∷ ts) (Some n) → IsLeast stock (free stock) (cut_subgoal t) a → (m : ℕ) × (a ≡ Some m) × StartsCut stock (t ∷ ts) n m
starts_cut stock t ts n a least la = go least.reached.0 least.reached.1 least.reached.2
  where
    go : (cs : CoverCutsModel) → AreStored stock (t ∷ ts) cs → cuts_cost cs ≡ n → (m : ℕ) × (a ≡ Some m) × StartsCut stock (t ∷ ts) n m
    go no_cuts e f = absurd (cc)
    go (cut_then p cs) (u, us, e, sparing, stored) f =
        let same : u ≡ t = cc in
        let same' : us ≡ ts = cc in
        let sparing' : IsSparing stock (free stock) (cut_subgoal t) p = subst (λ x. IsSparing stock (free stock) (cut_subgoal x) p) same sparing in
        let stored' : AreStored stock ts cs = subst (λ x. AreStored stock x cs) same' stored in
        let (m, em, le) = some_of a (cost p) (la.least p sparing') in
        let la' : IsLeast stock (free stock) (cut_subgoal t) (Some m) = subst (IsLeast stock (free stock) (cut_subgoal t)) em la in
        let (p0, sparing0, e0) = la'.reached in
        let all = least.least (cut_then p0 cs) (t, ts, refl, sparing0, stored') in (
          m,
          em,
          (
            (let h = cost_pos p0 in omega (arith, h, e0)),
            omega (arith, le, f),
            la',
            record {
              reached = (cs, stored', omega (arith, all, e0, f, le));
              least = λ ds stored''. (let h = least.least (cut_then p0 ds) (t, ts, refl, sparing0, stored'') in omega (arith, h, e0));
            },
          ),
        )

pub first_by_cut : (stock : StockModel) (t : ExprModel) (ts : List ExprModel) (n m : ℕ) (p : CoverModel) (cs : CoverCutsModel) → StartsCut stock (t ∷ ts) n m → IsFirst stock (free stock) (cut_subgoal t) p → IsFirstCuts stock ts cs → IsFirstCuts stock (t ∷ ts) (cut_then p cs)
first_by_cut stock t ts n m p cs (some, le, la, lb) fp fcs = record { covered = (t, ts, refl, fp.sparing, fcs.covered); first = go }
  where
    cost_p : cost p ≡ m
    cost_p =
        let (p0, sparing0, e0) = la.reached in
        let h = la.least p fp.sparing in
        elim (fp.first p0 sparing0) [ inl lt ↦ omega (arith, lt, h, e0) | inr eq ↦ (let e = eq.0 in omega (arith, e, e0)) ]

    cost_cs : cuts_cost cs ≡ n - m
    cost_cs =
        let (cs0, stored0, e0) = lb.reached in
        let h = lb.least cs fcs.covered in
        elim (fcs.first cs0 stored0) [ inl lt ↦ omega (arith, lt, h, e0) | inr eq ↦ (let e = eq.0 in omega (arith, e, e0)) ]

    pair : (q : CoverModel) (ds : CoverCutsModel) → (p ≡ q) ⊎ IsBefore p q → (cs ≡ ds) ⊎ CutsBefore cs ds → (cut_then p cs ≡ cut_then q ds) ⊎ CutsBefore (cut_then p cs) (cut_then q ds)
    pair q ds (inl e) (inl f) = inl (cc)
    pair q ds (inl e) (inr b) = inr (inr (e, b))
    pair q ds (inr b) c = inr (inl b)

    go : (ds : CoverCutsModel) → AreStored stock (t ∷ ts) ds → (cost p + cuts_cost cs < cuts_cost ds) ⊎ ((cost p + cuts_cost cs ≡ cuts_cost ds) × ((cut_then p cs ≡ ds) ⊎ CutsBefore (cut_then p cs) ds))
    go no_cuts e = absurd (cc)
    go (cut_then q ds) (u, us, e, sparing, stored) =
        let same : u ≡ t = cc in
        let same' : us ≡ ts = cc in
        let sparing' : IsSparing stock (free stock) (cut_subgoal t) q = subst (λ x. IsSparing stock (free stock) (cut_subgoal x) q) same sparing in
        let stored' : AreStored stock ts ds = subst (λ x. AreStored stock x ds) same' stored in
        let hp = la.least q sparing' in
        let hcs = lb.least ds stored' in
        let here = cost_p in
        let there = cost_cs in
        elim (fp.first q sparing') [
          | inl lt ↦ inl (omega (arith, lt, hcs, there))
          | inr eq ↦ elim (fcs.first ds stored') [
            | inl lt ↦ inl (omega (arith, lt, hp, here))
            | inr eq' ↦ inr ((let x = eq.0 in let y = eq'.0 in omega (arith, x, y)), pair q ds eq.1 eq'.1)
          ]
        ]
