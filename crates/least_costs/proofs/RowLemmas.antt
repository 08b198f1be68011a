-- Rows as chain rules lower them.
use Rattle.std.proofs.Common.{◌≡◌, ◌≢◌, ℕ, ◌+◌, ◌<◌, ◌≤◌, ◌^◌, List, [], ◌∷◌, length, Option, Some, None, Bool, true, false, refl, sym, ap, ◌∙◌, subst, arith, get_or, get_or-set_same, get_or-set_other, inl, inr}
use Rattle.std.specs.Prelude.{slice_get, slice_set, if◌then◌else◌}
use Rattle.std.specs.Bool.{OnTrue, OnFalse}
use Rattle.std.proofs.lemmas.Bool.{cases_eq}
use Rattle.std.proofs.lemmas.List.Sums.{sum_by-cons, sum_by-set}
use Rattle.net_model.specs.Exprs.{ExprModel}
use Rattle.form_model.specs.Covers.{StockModel}
use Rattle.least_costs.specs.declared.limits.Limits.{Limits}
use Rattle.least_costs.specs.declared.slots.Slot.{Slot}
use Rattle.least_costs.specs.declared.rows.ChainRule.{ChainRule}
use Rattle.least_costs.specs.Least.{AtMost, NoMore, IsLeastWithin}
use Rattle.least_costs.specs.Slots.{place, IsEntry}
use Rattle.least_costs.specs.Rows.{Row, entry, row_subgoal, Sound, IsBelow, IsLift, weight, weight_of, unfilled, unfilled_in, IsRoomy, NoneAbove, Lower, Chained, Changed, Keeps, Swept, IsClosed, Entered}
use Rattle.least_costs.proofs.SlotLemmas.{place_within, slot_entry, place_once}

-- an entry after a write
pub entry_same : (row : Row) (d : Slot) (v : Option ℕ) → place d < length row → entry (slice_set row (place d) v) d ≡ v
entry_same row d v h = get_or-set_same row (place d) v None h

pub entry_there : (row : Row) (d r : Slot) (v : Option ℕ) → place d < length row → place r ≡ place d → entry (slice_set row (place d) v) r ≡ v
entry_there row d r v h e = ap (λ j. get_or (slice_set row (place d) v) j None) e ∙ entry_same row d v h

pub entry_other : (row : Row) (d r : Slot) (v : Option ℕ) → place r ≢ place d → entry (slice_set row (place d) v) r ≡ entry row r
entry_other row d r v h = get_or-set_other row (place d) (place r) v None h

pub at_most_below : (o : Option ℕ) (m n : ℕ) → IsBelow m o → AtMost o n → m ≤ n
at_most_below None m n b h = absurd h
at_most_below (Some k) m n b h = omega arith

lighter : (o : Option ℕ) (m : ℕ) → m < 2 ^ 64 → IsBelow m o → m < weight o
lighter None m h b = h
lighter (Some k) m h b = b

-- what trying a chain rule does, where its start has a cost
pub chained : (m : ChainRule) (changed : Bool) (c : ℕ) (old new : Row) → entry old m.start ≡ Some c → c + 1 < 2 ^ 64 → new ≡ (if changed then slice_set old (place m.goal) (Some (c + 1)) else old) → OnTrue changed (IsBelow (c + 1) (entry old m.goal)) → OnFalse changed (AtMost (entry old m.goal) (c + 1)) → Chained m changed old new
chained m true c old new at small e below kept = (c, at, small, below, e)
chained m false c old new at small e below kept = (e, λ k at'. (let same : c ≡ k = cc in subst (λ j. AtMost (entry old m.goal) (j + 1)) same kept))

moved_weight : (m : ChainRule) (old new : Row) → length old ≡ 18 → IsEntry m.goal → Chained m true old new → weight_of new < weight_of old
moved_weight m old new len fits (c, at, small, below, e) =
    let p = place_within m.goal fits in
    let within : place m.goal < length old = omega (arith, len, p) in
    let s = sum_by-set weight old (place m.goal) (Some (c + 1)) None within in
    let l = lighter (entry old m.goal) (c + 1) small below in
    let w : weight_of new ≡ weight_of (slice_set old (place m.goal) (Some (c + 1))) = ap weight_of e in
    omega (arith, s, l, w)

moved_lower : (m : ChainRule) (old new : Row) → length old ≡ 18 → IsEntry m.goal → Chained m true old new → Lower old new
moved_lower m old new len fits (c, at, small, below, e) q n h =
    let p = place_within m.goal fits in
    let within : place m.goal < length old = omega (arith, len, p) in
    subst (λ row. AtMost (entry row q) n) (sym e)
    (elim (cases_eq (place q) (place m.goal)) [
      | inl same ↦ subst (λ o. AtMost o n) (sym (entry_there old m.goal q (Some (c + 1)) within same))
          (at_most_below (entry old m.goal) (c + 1) n below (subst (λ j. AtMost (get_or old j None) n) same h))
      | inr other ↦ subst (λ o. AtMost o n) (sym (entry_other old m.goal q (Some (c + 1)) other)) h
    ])

move_reached : (stock : StockModel) (limits : Limits) (tree : ExprModel) (whole : Bool) (m : ChainRule) (c : ℕ) → IsLift stock limits tree whole m → IsLeastWithin stock limits (row_subgoal tree whole m.start) (Some c) → IsLeastWithin stock limits (row_subgoal tree whole m.goal) (Some (c + 1))
move_reached stock limits tree whole m c is (p, sparing, e) = let (q, sparing', e') = is.lift p sparing in (q, sparing', omega (arith, e, e'))

-- a row of costs of covers stays one where a chain rule gives its goal a cost
pub raised_sound : (stock : StockModel) (limits : Limits) (tree : ExprModel) (whole : Bool) (m : ChainRule) (old : Row) (c : ℕ) → IsLift stock limits tree whole m → length old ≡ 18 → entry old m.start ≡ Some c → Sound stock limits tree whole old → Sound stock limits tree whole (slice_set old (place m.goal) (Some (c + 1)))
raised_sound stock limits tree whole m old c lift len at sound q slot =
    let fits = slot_entry whole m.goal lift.goal in
    let p = place_within m.goal fits in
    let within : place m.goal < length old = omega (arith, len, p) in
    elim (cases_eq (place q) (place m.goal)) [
      | inl same ↦ subst (λ j. IsLeastWithin stock limits (row_subgoal tree whole j) (entry (slice_set old (place m.goal) (Some (c + 1))) j)) (sym (place_once q m.goal (slot_entry whole q slot) fits same))
          (subst (λ o. IsLeastWithin stock limits (row_subgoal tree whole m.goal) o) (sym (entry_same old m.goal (Some (c + 1)) within))
          (move_reached stock limits tree whole m c lift (subst (λ o. IsLeastWithin stock limits (row_subgoal tree whole m.start) o) at (sound m.start lift.start))))
      | inr other ↦ subst (λ o. IsLeastWithin stock limits (row_subgoal tree whole q) o) (sym (entry_other old m.goal q (Some (c + 1)) other)) (sound q slot)
    ]

moved_sound : (chains : List ChainRule) (i : ℕ) (m : ChainRule) (old new : Row) → slice_get chains i ≡ Some m → length old ≡ 18 → Chained m true old new → Keeps chains old new
moved_sound chains i m old new get len (c, at, small, below, e) stock limits tree whole lifts sound =
    subst (Sound stock limits tree whole) (sym e) (raised_sound stock limits tree whole m old c (lifts i m get) len at sound)

no_heavier : (chains : List ChainRule) (n : ℕ) (changed : Bool) (old mid : Row) → Changed chains n changed old mid → weight_of mid ≤ weight_of old
no_heavier chains n true old mid h = omega arith
no_heavier chains n false old mid h = let e = ap weight_of h.0 in omega (arith, e)

pub swept_none : (chains : List ChainRule) (row : Row) → Swept chains 0 false row row
swept_none chains row = record { sound = λ stock limits tree whole lifts h. h; lower = λ r n h. h; change = (refl, λ i m c lt. absurd (omega arith)) }

pub swept_moved : (chains : List ChainRule) (n : ℕ) (changed : Bool) (old mid new : Row) (m : ChainRule) → Swept chains n changed old mid → slice_get chains n ≡ Some m → length mid ≡ 18 → IsEntry m.goal → Chained m true mid new → Swept chains (n + 1) true old new
swept_moved chains n changed old mid new m s get len fits moved = record {
  sound = λ stock limits tree whole lifts h. moved_sound chains n m mid new get len moved stock limits tree whole lifts (s.sound stock limits tree whole lifts h);
  lower = λ r k h. moved_lower m mid new len fits moved r k (s.lower r k h);
  change = (let a = moved_weight m mid new len fits moved in let b = no_heavier chains n changed old mid s.change in omega (arith, a, b));
}

kept_change : (chains : List ChainRule) (n : ℕ) (changed : Bool) (old mid : Row) (m : ChainRule) → Changed chains n changed old mid → slice_get chains n ≡ Some m → ((c : ℕ) → entry mid m.start ≡ Some c → AtMost (entry mid m.goal) (c + 1)) → Changed chains (n + 1) changed old mid
kept_change chains n true old mid m h get kept = h
kept_change chains n false old mid m h get kept = (
  h.0,
  λ i g c lt get' at. elim (cases_eq i n) [
    | inl same ↦ let e : m ≡ g = (let get'' = subst (λ j. slice_get chains j ≡ Some g) same get' in cc) in
        subst (λ x. AtMost (entry mid x.goal) (c + 1)) e (kept c (ap (λ x. entry mid x.start) e ∙ at))
    | inr other ↦ h.1 i g c (omega arith) get' at
  ],
)

pub swept_kept : (chains : List ChainRule) (n : ℕ) (changed : Bool) (old mid new : Row) (m : ChainRule) → Swept chains n changed old mid → slice_get chains n ≡ Some m → Chained m false mid new → Swept chains (n + 1) changed old new
swept_kept chains n changed old mid new m s get (same, kept) =
    subst (λ row. Swept chains (n + 1) changed old row) (sym same) (record {
      sound = s.sound;
      lower = s.lower;
      change = kept_change chains n changed old mid m s.change get kept;
    })

-- ---- room

-- a row keeps its room where an entry becomes less or gets a cost, 1 more than another's
pub roomy_set : (most : ℕ) (row : Row) (d : Slot) (c : ℕ) → place d < length row → IsRoomy most row → c + unfilled_in row ≤ most → IsBelow (c + 1) (entry row d) → IsRoomy most (slice_set row (place d) (Some (c + 1)))
roomy_set most row d c within room le below q n at =
    elim (cases_eq (place q) (place d)) [
      | inl same ↦
          (let e : ◌≡◌ {A = Option ℕ} (Some (c + 1)) (Some n) = sym (entry_there row d q (Some (c + 1)) within same) ∙ at in
          let is : c + 1 ≡ n = cc in
          subst (λ k. k + unfilled_in (slice_set row (place d) (Some (c + 1))) ≤ most) is (here (entry row d) refl below))
      | inr other ↦ (let h = room q n (sym (entry_other row d q (Some (c + 1)) other) ∙ at) in omega (arith, h, sum))
    ]
  where
    sum : unfilled_in (slice_set row (place d) (Some (c + 1))) + unfilled (entry row d) ≡ unfilled_in row + 0
    sum = sum_by-set unfilled row (place d) (Some (c + 1)) None within

    here : (o : Option ℕ) → entry row d ≡ o → IsBelow (c + 1) o → c + 1 + unfilled_in (slice_set row (place d) (Some (c + 1))) ≤ most
    here None e b = let s = sum in let one = ap unfilled e in omega (arith, s, one, le)
    here (Some k) e b = let s = sum in let h = room d k e in omega (arith, s, h, b)

pub chained_room : (m : ChainRule) (changed : Bool) (most : ℕ) (old new : Row) → length old ≡ 18 → IsEntry m.goal → Chained m changed old new → IsRoomy most old → IsRoomy most new
chained_room m true most old new len fits (c, at, small, below, e) room =
    let p = place_within m.goal fits in
    subst (IsRoomy most) (sym e) (roomy_set most old m.goal c (omega (arith, len, p)) room (room m.start c at) below)
chained_room m false most old new len fits (same, kept) room = subst (IsRoomy most) (sym same) room

-- no more entries lack a cost than there are
pub unfilled_le : (row : Row) → unfilled_in row ≤ length row
unfilled_le [] = omega arith
unfilled_le (o ∷ row) = let h = unfilled_le row in let c = sum_by-cons unfilled o row in let one = each o in omega (arith, h, c, one)
  where
    each : (o : Option ℕ) → unfilled o ≤ 1
    each None = omega arith
    each (Some n) = omega arith

-- a row of costs that are low has room
pub low_room : (n most : ℕ) (row : Row) → length row ≡ 18 → NoneAbove n row → n + 18 ≤ most → IsRoomy most row
low_room n most row len low le s c at = let h = subst (λ o. NoMore o n) at (low s) in let u = unfilled_le row in omega (arith, h, u, len, le)

-- an entry that is made low leaves the row low
pub entered_low : (n : ℕ) (old new : Row) (d : Slot) (c : ℕ) → NoneAbove n old → Entered old new d c → c ≤ n → NoneAbove n new
entered_low n old new d c low entered le q = elim (entered.others q) [
  | inl same ↦ subst (λ o. NoMore o n) (sym same) (low q)
  | inr at ↦ subst (λ o. NoMore o n) (sym at.1) le
]

-- a row to which no chain rule is left
pub closed_after : (chains : List ChainRule) (old mid new : Row) → Keeps chains old mid → Lower old mid → Swept chains (length chains) false mid new → IsClosed chains old new
closed_after chains old mid new sound lower s = record {
  sound = λ stock limits tree whole lifts h. s.sound stock limits tree whole lifts (sound stock limits tree whole lifts h);
  lower = λ r n h. s.lower r n (lower r n h);
  still = s.change.1;
}

-- an entry that was made where it is less
pub entered : (old new : Row) (d : Slot) (n : ℕ) (b : Bool) → length old ≡ 18 → IsEntry d → new ≡ (if b then slice_set old (place d) (Some n) else old) → OnTrue b (IsBelow n (entry old d)) → OnFalse b (AtMost (entry old d) n) → Entered old new d n
entered old new d n true len lt e below kept = subst (λ row. Entered old row d n) (sym e) (record {
  lower = λ q k h. elim (cases_eq (place q) (place d)) [
    | inl same ↦ subst (λ o. AtMost o k) (sym (entry_there old d q (Some n) within same)) (at_most_below (entry old d) n k below (subst (λ j. AtMost (get_or old j None) k) same h))
    | inr other ↦ subst (λ o. AtMost o k) (sym (entry_other old d q (Some n) other)) h
  ];
  at = subst (λ o. AtMost o n) (sym (entry_same old d (Some n) within)) (omega arith);
  others = λ q. elim (cases_eq (place q) (place d)) [
    | inl same ↦ inr (same, entry_there old d q (Some n) within same)
    | inr other ↦ inl (entry_other old d q (Some n) other)
  ];
})
  where
    within : place d < length old
    within = let p = place_within d lt in omega (arith, len, p)
entered old new d n false len lt e below kept = subst (λ row. Entered old row d n) (sym e) (record {
  lower = λ q k h. h;
  at = kept;
  others = λ q. inl refl;
})
