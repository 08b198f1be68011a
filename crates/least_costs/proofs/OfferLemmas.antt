-- What one form gives for a row, and the row of all forms.
use Rattle.std.proofs.Common.{◌≡◌, ℕ, zero, suc, ◌+◌, ◌≤◌, List, [], ◌∷◌, ◌++◌, length, replicate, refl, sym, ap, ◌∙◌, subst, Option, Some, None, Bool, true, false, arith, ◌⊎◌, inl, inr}
use Rattle.std.specs.Prelude.{slice_get, slice_index_or, ◌==◌}
use Rattle.std.proofs.lemmas.Bool.{cases_eq, eqb-true}
use Rattle.std.proofs.lemmas.Option.{slice_get_within}
use Rattle.rec_bits.proofs.Booleans.{both}
use Rattle.net_model.specs.Exprs.{ExprModel, size_of}
use Rattle.form_model.specs.Forms.{FormModel, into_memory}
use Rattle.form_model.specs.Matches.{HomeModel, in_register, in_file, operand, cut, MatchModel}
use Rattle.form_model.specs.CoverModels.{CoverModel, use_form, CoverOperandsModel, no_operands, operand_then, CoverCutsModel, no_cuts, cut_then, cost, operands_cost, cuts_cost}
use Rattle.form_model.specs.Covers.{StockModel, Operand, operands_of, cuts_of, cells_of_goal, home_destination}
use Rattle.least_costs.specs.declared.limits.Limits.{Limits}
use Rattle.least_costs.specs.declared.slots.Slot.{Slot}
use Rattle.least_costs.specs.declared.slots.Slot.TheVariants.{Register, File, Temporary}
use Rattle.least_costs.specs.declared.rows.ChainRule.{ChainRule}
use Rattle.least_costs.specs.declared.rows.Offer.{Offer}
use Rattle.least_costs.specs.declared.matches.FormMatch.{FormMatch}
use Rattle.least_costs.specs.Matched.{Takes}
use Rattle.least_costs.specs.declared.rows.Offer.TheVariants.{Nothing, Chains, Reaches}
use Rattle.least_costs.specs.Subgoals.{KeepsTo, free, is_free, operand_subgoal, cut_subgoal, takes, IsSparing, AreSparing, AreStored, rest}
use Rattle.least_costs.specs.Least.{AtMost, IsLeastWithin, IsLeastForm}
use Rattle.least_costs.specs.Slots.{place, IsEntry, IsSlot, entry_destination, goal_slot, home_slot}
use Rattle.least_costs.specs.Rows.{Row, entry, IsBlank, row_subgoal, IsLeastRow, IsLift, AreLifts, AreWithin, IsWithin, IsMet, IsTried, IsOffer, offer_is, Noted, IsClosed}
use Rattle.least_costs.proofs.SizeLemmas.{Small, into_small, filed_small, temp_small, rest_some}
use Rattle.least_costs.proofs.LeastLemmas.{at_most_more, some_of}
use Rattle.least_costs.proofs.SlotLemmas.{slot_entry, place_once}

-- ---- entries of a row

blank_place : (n r : ℕ) → slice_index_or (replicate {A = Option ℕ} n None) r None ≡ None
blank_place zero zero = refl
blank_place zero (suc r) = refl
blank_place (suc n) zero = refl
blank_place (suc n) (suc r) = blank_place n r

pub blank_row : (n : ℕ) → IsBlank (replicate n None)
blank_row n s = blank_place n (place s)

-- the entry for an operand's home goes where its cover goes
pub slot_home : (h : HomeModel) → entry_destination (home_slot h) ≡ home_destination h
slot_home (in_register id) = refl
slot_home (in_file shape) = refl

slot_of_home : (whole : Bool) (h : HomeModel) → IsEntry (home_slot h) → IsSlot whole (home_slot h)
slot_of_home whole (in_register id) e = e
slot_of_home whole (in_file shape) e = tt

-- what a form takes for an entry of a row: it goes there, and leaves the whole tree or less
pub row_small : (stock : StockModel) (form : FormModel) (t : ExprModel) (whole : Bool) (s : Slot) (found : MatchModel) → IsSlot whole s → takes stock form (row_subgoal t whole s) ≡ Some found → (goal_slot form.goal whole ≡ Some s) × Small whole t found.leaves
row_small stock form t whole (Register r) found slot h = into_small stock.temps form form.goal r t whole found h
row_small stock form t whole File found slot h =
    let (is, small) = filed_small stock.temps form form.goal t whole found h in
    (ap (λ g. goal_slot g whole) is, small)
row_small stock form t whole Temporary found w h =
    let (is, small) = temp_small stock.temps form form.goal t whole found h in
    (ap (λ g. goal_slot g whole) is ∙ ap (λ v. goal_slot into_memory v) w, subst (λ v. Small v t found.leaves) (sym w) small)

-- ---- offers

module _ (stock : StockModel) (limits : Limits) (t : ExprModel) (whole : Bool) (row : Row) (k : ℕ) where
  -- a form that goes to no entry of the row
  pub offer_no_goal : (form : FormModel) → slice_get stock.forms k ≡ Some form → goal_slot form.goal whole ≡ None → IsOffer stock limits t whole row k Nothing
  offer_no_goal form get none = λ ps cs r slot (form', get', spared, found, is, orders, stored).
      let same : form' ≡ form = cc in
      let g = (row_small stock form' t whole r found slot is).0 in
      let g' : goal_slot form.goal whole ≡ Some r = subst (λ (x : FormModel). goal_slot x.goal whole ≡ Some r) same g in
      absurd (cc)

  pub offer_no_spare : (form : FormModel) → slice_get stock.forms k ≡ Some form → (KeepsTo limits form.clobbers (cells_of_goal form.goal) → ⊥) → IsOffer stock limits t whole row k Nothing
  offer_no_spare form get never = λ ps cs r slot (form', get', spared, found, is, orders, stored).
      let same : form' ≡ form = cc in
      absurd (never (subst (λ (x : FormModel). KeepsTo limits x.clobbers (cells_of_goal x.goal)) same spared))

  -- the entry to which the form goes
  at_goal : (form : FormModel) (d : Slot) → slice_get stock.forms k ≡ Some form → goal_slot form.goal whole ≡ Some d → (ps : CoverOperandsModel) (cs : CoverCutsModel) (r : Slot) → IsSlot whole r → IsSparing stock limits (row_subgoal t whole r) (use_form k ps cs) → d ≡ r
  at_goal form d get goal ps cs r slot (form', get', spared, found, is, orders, stored) =
      let same : form' ≡ form = cc in
      let g = (row_small stock form' t whole r found slot is).0 in
      let g' : goal_slot form.goal whole ≡ Some r = subst (λ (x : FormModel). goal_slot x.goal whole ≡ Some r) same g in
      cc

  pub offer_form : (form : FormModel) (d : Slot) (o : Option ℕ) → slice_get stock.forms k ≡ Some form → goal_slot form.goal whole ≡ Some d → IsSlot whole d → IsLeastForm stock limits (row_subgoal t whole d) k o → IsOffer stock limits t whole row k (offer_is d o)
  offer_form form d None get goal slot is = λ ps cs r slot' sparing.
      let e = at_goal form d get goal ps cs r slot' sparing in
      absurd (is.least ps cs (subst (λ j. IsSparing stock limits (row_subgoal t whole j) (use_form k ps cs)) (sym e) sparing))
  offer_form form d (Some n) get goal slot is = (
    slot,
    (let (ps, cs, sparing, e) = is.reached in (use_form k ps cs, sparing, e)),
    λ ps cs r slot' sparing.
        let e = at_goal form d get goal ps cs r slot' sparing in
        (e, is.least ps cs (subst (λ j. IsSparing stock limits (row_subgoal t whole j) (use_form k ps cs)) (sym e) sparing)),
  )

  -- a cover of the one part, from the cover of the form, and back
  sole : (h : HomeModel) (ps : CoverOperandsModel) → AreSparing stock limits (record { home = h; tree = t; whole = whole } ∷ []) ps → (q : CoverModel) × IsSparing stock limits (record { destination = home_destination h; tree = t; whole = whole }) q × (cost q ≤ operands_cost ps)
  sole h no_operands e = absurd (cc)
  sole h (operand_then zero q others) (o, get, sparing, later) =
      let mine : Operand = record { home = h; tree = t; whole = whole } in
      let e : mine ≡ o = cc in (q, subst (λ x. IsSparing stock limits (operand_subgoal x) q) (sym e) sparing, omega arith)
  sole h (operand_then (suc i) q others) (o, get, sparing, later) = absurd (cc)

  sole_cut : (cs : CoverCutsModel) → AreStored stock (t ∷ []) cs → (q : CoverModel) × IsSparing stock (free stock) (cut_subgoal t) q × (cost q ≤ cuts_cost cs)
  sole_cut no_cuts e = absurd (cc)
  sole_cut (cut_then q later) (u, us, e, sparing, others) =
      let same : u ≡ t = cc in (q, subst (λ x. IsSparing stock (free stock) (cut_subgoal x) q) same sparing, omega arith)

  all_free : is_free stock.file limits ≡ true → limits ≡ free stock
  all_free e =
      let (a, b) = both (limits.avoid == 0) (limits.allowed == stock.file) e in
      let p = eqb-true limits.avoid 0 a in
      let q = eqb-true limits.allowed stock.file b in
      ap (λ n. record { avoid = n; allowed = limits.allowed }) p ∙ ap (λ n. record { avoid = 0; allowed = n }) q

  pub offer_chain : (form : FormModel) (d q : Slot) (found : MatchModel) → slice_get stock.forms k ≡ Some form → KeepsTo limits form.clobbers (cells_of_goal form.goal) → goal_slot form.goal whole ≡ Some d → IsSlot whole d → takes stock form (row_subgoal t whole d) ≡ Some found → rest (size_of t) (is_free stock.file limits) found.leaves ≡ Some q → IsEntry q → IsOffer stock limits t whole row k (Chains (record { start = q; goal = d }))
  offer_chain form d q found get spared goal slot is rests within = go (rest_some whole t (is_free stock.file limits) found.leaves q (row_small stock form t whole d found slot is).1 rests)
    where
      -- the parts of a cover by this form
      parts : (ps : CoverOperandsModel) (cs : CoverCutsModel) (r : Slot) → IsSlot whole r → IsSparing stock limits (row_subgoal t whole r) (use_form k ps cs) → (d ≡ r) × AreSparing stock limits (operands_of found.leaves) ps × AreStored stock (cuts_of found.leaves) cs
      parts ps cs r slot' (form', get', spared', found', is', orders, stored) =
          let e = at_goal form d get goal ps cs r slot' (form', get', spared', found', is', orders, stored) in
          let same : form' ≡ form = cc in
          let t' : takes stock form (row_subgoal t whole d) ≡ Some found' = subst (λ j. takes stock form (row_subgoal t whole j) ≡ Some found') (sym e) (subst (λ x. takes stock x (row_subgoal t whole r) ≡ Some found') same is') in
          let same' : found' ≡ found = cc in
          (e, subst (λ (f : MatchModel). AreSparing stock limits (operands_of f.leaves) ps) same' orders, subst (λ (f : MatchModel). AreStored stock (cuts_of f.leaves) cs) same' stored)

      go : ((h : HomeModel) × (found.leaves ≡ operand h t whole ∷ []) × (q ≡ home_slot h)) ⊎ ((shape : ExprModel) × (found.leaves ≡ cut shape t ∷ []) × (whole ≡ false) × (is_free stock.file limits ≡ true) × (q ≡ Temporary)) → IsOffer stock limits t whole row k (Chains (record { start = q; goal = d }))
      go (inl (h, e, same)) =
          let at : entry_destination q ≡ home_destination h = ap entry_destination same ∙ slot_home h in
          let mine : Operand = record { home = h; tree = t; whole = whole } in
          let a : operands_of found.leaves ≡ mine ∷ [] = ap operands_of e in
          let b : cuts_of found.leaves ≡ [] = ap cuts_of e in (
            record {
              start = subst (IsSlot whole) (sym same) (slot_of_home whole h (subst IsEntry same within));
              goal = slot;
              lift = λ p sparing. (
                use_form k (operand_then 0 p no_operands) no_cuts,
                (form, get, spared, found, is, subst (λ l. AreSparing stock limits l (operand_then 0 p no_operands)) (sym a) (mine, refl, subst (λ x. IsSparing stock limits (record { destination = x; tree = t; whole = whole }) p) at sparing, refl), b),
                omega arith,
              );
            },
            λ ps cs r slot' sparing.
                let (same, orders, stored) = parts ps cs r slot' sparing in
                let (p, sparing', le) = sole h ps (subst (λ l. AreSparing stock limits l ps) a orders) in
                (same, p, subst (λ x. IsSparing stock limits (record { destination = x; tree = t; whole = whole }) p) (sym at) sparing', omega (arith, le)),
          )
      go (inr (shape, e, w, all, at)) =
          let zero_is = all_free all in
          let a : operands_of found.leaves ≡ [] = ap operands_of e in
          let b : cuts_of found.leaves ≡ t ∷ [] = ap cuts_of e in
          let there : row_subgoal t whole q ≡ cut_subgoal t = ap (λ j. row_subgoal t whole j) at ∙ ap (λ v. row_subgoal t v Temporary) w in (
            record {
              start = subst (IsSlot whole) (sym at) w;
              goal = slot;
              lift = λ p sparing. (
                use_form k no_operands (cut_then p no_cuts),
                (form, get, spared, found, is, a, subst (λ l. AreStored stock l (cut_then p no_cuts)) (sym b) (t, [], refl, subst (λ x. IsSparing stock (free stock) x p) there (subst (λ s. IsSparing stock s (row_subgoal t whole q) p) zero_is sparing), refl)),
                omega arith,
              );
            },
            λ ps cs r slot' sparing.
                let (same, orders, stored) = parts ps cs r slot' sparing in
                let (p, sparing', le) = sole_cut cs (subst (λ l. AreStored stock l cs) b stored) in
                (same, p, subst (λ s. IsSparing stock s (row_subgoal t whole q) p) (sym zero_is) (subst (λ x. IsSparing stock (free stock) x p) (sym there) sparing'), omega (arith, le)),
          )

-- ---- rows

pub get_old : {X : Type 0} (xs : List X) (y x : X) (i : ℕ) → slice_get xs i ≡ Some x → slice_get (xs ++ (y ∷ [])) i ≡ Some x
get_old [] y x i h = absurd (cc)
get_old (z ∷ xs) y x zero h = h
get_old (z ∷ xs) y x (suc i) h = get_old xs y x i h

pub get_new : {X : Type 0} (xs : List X) (y : X) → slice_get (xs ++ (y ∷ [])) (length xs) ≡ Some y
get_new [] y = refl
get_new (z ∷ xs) y = get_new xs y

pub get_either : {X : Type 0} (xs : List X) (y x : X) (i : ℕ) → slice_get (xs ++ (y ∷ [])) i ≡ Some x → (slice_get xs i ≡ Some x) ⊎ (x ≡ y)
get_either [] y x zero h = inr (cc)
get_either [] y x (suc i) h = absurd (cc)
get_either (z ∷ xs) y x zero h = inl h
get_either (z ∷ xs) y x (suc i) h = get_either xs y x i h

module _ (stock : StockModel) (limits : Limits) (t : ExprModel) (whole : Bool) where
  pub tried_none : (list : List FormMatch) (row : Row) → ((r : Slot) → entry row r ≡ None) → IsTried stock limits t whole list 0 [] row
  tried_none list row blank = record {
    sound = λ r slot. subst (λ o. IsLeastWithin stock limits (row_subgoal t whole r) o) (sym (blank r)) tt;
    lifts = λ i m get. absurd (cc);
    met = λ i f ps cs r lt. absurd (omega arith);
  }

  pub lifts_within : (chains : List ChainRule) → AreLifts stock limits t whole chains → AreWithin chains
  lifts_within chains lifts i m get = let l = lifts i m get in (slot_entry whole m.start l.start, slot_entry whole m.goal l.goal)

  more_met : (chains : List ChainRule) (m : ChainRule) (row : Row) (r : Slot) (n : ℕ) → IsMet stock limits t whole chains row r n → IsMet stock limits t whole (chains ++ (m ∷ [])) row r n
  more_met chains m row r n (inl h) = inl h
  more_met chains m row r n (inr (i, m', get, goal, q, sparing, le)) = inr (i, m', get_old chains m m' i get, goal, q, sparing, le)

  lower_met : (chains : List ChainRule) (old new : Row) (r : Slot) (n : ℕ) → ((r : Slot) (n : ℕ) → AtMost (entry old r) n → AtMost (entry new r) n) → IsMet stock limits t whole chains old r n → IsMet stock limits t whole chains new r n
  lower_met chains old new r n lower (inl h) = inl (lower r n h)
  lower_met chains old new r n lower (inr h) = inr h

  module _ (list : List FormMatch) (n : ℕ) (f : FormMatch) (here : slice_get list n ≡ Some f) where
    -- a cover that begins with a match at n begins with the form of f
    at_match : (i : ℕ) (x : FormMatch) (ps : CoverOperandsModel) (cs : CoverCutsModel) (r : Slot) → i ≡ n → slice_get list i ≡ Some x → IsSparing stock limits (row_subgoal t whole r) (use_form x.form ps cs) → IsSparing stock limits (row_subgoal t whole r) (use_form f.form ps cs)
    at_match i x ps cs r at got sparing =
        let there : slice_get list n ≡ Some x = subst (λ j. slice_get list j ≡ Some x) at got in
        let same : x ≡ f = cc in subst (λ (y : FormMatch). IsSparing stock limits (row_subgoal t whole r) (use_form y.form ps cs)) same sparing

    pub tried_more : (offer : Offer) (chains chains' : List ChainRule) (old new : Row) → IsTried stock limits t whole list n chains old → IsOffer stock limits t whole old f.form offer → Noted offer chains chains' old new → IsTried stock limits t whole list (n + 1) chains' new
    tried_more Nothing chains chains' old new tried offer (e, e') =
        subst (λ ms. IsTried stock limits t whole list (n + 1) ms new) (sym e) (subst (λ row. IsTried stock limits t whole list (n + 1) chains row) (sym e') (record {
          sound = tried.sound;
          lifts = tried.lifts;
          met = λ i x ps cs r lt got slot sparing. elim (cases_eq i n) [
            | inl at ↦ inl (offer ps cs r slot (at_match i x ps cs r at got sparing))
            | inr other ↦ tried.met i x ps cs r (omega arith) got slot sparing
          ];
        }))
    tried_more (Chains m) chains chains' old new tried (lift, offer) (e, e') =
        subst (λ ms. IsTried stock limits t whole list (n + 1) ms new) (sym e) (subst (λ row. IsTried stock limits t whole list (n + 1) (chains ++ (m ∷ [])) row) (sym e') (record {
          sound = tried.sound;
          lifts = λ i m' get. elim (get_either chains m m' i get) [
            | inl before ↦ tried.lifts i m' before
            | inr same ↦ subst (IsLift stock limits t whole) (sym same) lift
          ];
          met = λ i x ps cs r lt got slot sparing. elim (cases_eq i n) [
            | inl at ↦ (let (goal, q, sparing', le) = offer ps cs r slot (at_match i x ps cs r at got sparing) in
                inr (length chains, m, get_new chains m, goal, q, sparing', le))
            | inr other ↦ more_met chains m old r (cost (use_form x.form ps cs)) (tried.met i x ps cs r (omega arith) got slot sparing)
          ];
        }))
    tried_more (Reaches d c) chains chains' old new tried (slot_d, reached, offer) (e, entered) =
        subst (λ ms. IsTried stock limits t whole list (n + 1) ms new) (sym e) (record {
          sound = λ q slot. elim (entered.others q) [
            | inl same ↦ subst (λ o. IsLeastWithin stock limits (row_subgoal t whole q) o) (sym same) (tried.sound q slot)
            | inr at ↦ subst (λ o. IsLeastWithin stock limits (row_subgoal t whole q) o) (sym at.1) (subst (λ j. IsLeastWithin stock limits (row_subgoal t whole j) (Some c)) (sym (place_once q d (slot_entry whole q slot) (slot_entry whole d slot_d) at.0)) reached)
          ];
          lifts = tried.lifts;
          met = λ i x ps cs r lt got slot sparing. elim (cases_eq i n) [
            | inl at ↦ (let (goal, le) = offer ps cs r slot (at_match i x ps cs r at got sparing) in
                inl (subst (λ j. AtMost (entry new j) (cost (use_form x.form ps cs))) goal (at_most_more (entry new d) c (cost (use_form x.form ps cs)) le entered.at)))
            | inr other ↦ lower_met chains old new r (cost (use_form x.form ps cs)) entered.lower (tried.met i x ps cs r (omega arith) got slot sparing)
          ];
        })

  module _ (list : List FormMatch) (all : (k : ℕ) → Takes stock t whole k → (i : ℕ) × (m : FormMatch) × (slice_get list i ≡ Some m) × (m.form ≡ k)) (chains : List ChainRule) (old new : Row) (tried : IsTried stock limits t whole list (length list) chains old) (closed : IsClosed chains old new) where
    -- no cover is cheaper than its entry, by induction on a bound of its cost
    complete : (n : ℕ) (p : CoverModel) (r : Slot) → cost p ≤ n → IsSlot whole r → IsSparing stock limits (row_subgoal t whole r) p → AtMost (entry new r) (cost p)
    complete zero (use_form k ps cs) r le slot sparing = absurd (omega arith)
    complete (suc n) (use_form k ps cs) r le slot (form, get, spared, found, is, orders, stored) =
        let (i, f, got, same) = all k (record { entry = r; slot = slot; form = form; found = found; listed = get; takes_it = is }) in
        go (complete n)
        (tried.met i f ps cs r (slice_get_within list i f got) got slot (subst (λ j. IsSparing stock limits (row_subgoal t whole r) (use_form j ps cs)) (sym same) (form, get, spared, found, is, orders, stored)))
      where
        go : ((q : CoverModel) (s : Slot) → cost q ≤ n → IsSlot whole s → IsSparing stock limits (row_subgoal t whole s) q → AtMost (entry new s) (cost q)) → IsMet stock limits t whole chains old r (cost (use_form k ps cs)) → AtMost (entry new r) (cost (use_form k ps cs))
        go ih (inl h) = closed.lower r (cost (use_form k ps cs)) h
        go ih (inr (i, m, listed, goal, q, sparing, less)) =
            let (c, at, up) = some_of (entry new m.start) (cost q) (ih q m.start (omega (arith, le, less)) (tried.lifts i m listed).start sparing) in
            let h = closed.still i m c (slice_get_within chains i m listed) listed at in
            at_most_more (entry new r) (c + 1) (cost (use_form k ps cs)) (omega (arith, up, less)) (subst (λ d. AtMost (entry new d) (c + 1)) goal h)

    pub least_row_of : IsLeastRow stock limits t whole new
    least_row_of r slot = record { reached = closed.sound stock limits t whole tried.lifts tried.sound r slot; least = λ p h. complete (cost p) p r (omega arith) slot h }

pub look_within : (stock : StockModel) (limits : Limits) (t : ExprModel) (whole : Bool) (row : Row) (k : ℕ) (offer : Offer) → IsOffer stock limits t whole row k offer → IsWithin offer
look_within stock limits t whole row k Nothing h = tt
look_within stock limits t whole row k (Chains m) h = tt
look_within stock limits t whole row k (Reaches slot n) h = slot_entry whole slot h.0
