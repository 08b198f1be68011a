-- The value of a net of a netlist with an order is its gate's at the values of the nets before it.
use Rattle.std.proofs.Common.{get_or, ◌^◌, slice_set, add-one, inl, inr, ◌≡◌, ℕ, ◌+◌, ◌<◌, ◌≤◌, ◌==◌, List, [], ◌∷◌, Some, None, length, sym, ◌∙◌, ap, arith, subst, refl, Bool, true, false, cond, slice_get, slice_index, zero, suc}
use Rattle.std.proofs.lemmas.Bool.{cases_eq, eq-eqb, ne_eqb}
use Rattle.std.proofs.lemmas.Option.{slice_get_cases, slice_get_read}
use Rattle.std.proofs.lemmas.List.{get_or-set_same, get_or-set_other, get_or_past}
use Rattle.rec_bits.proofs.Lists.{all_weaker}
use Rattle.net_model.specs.declared.hardware.Netlist.{Netlist}
use Rattle.net_model.specs.declared.hardware.Net.{Net}
use Rattle.net_model.specs.declared.states.State.{State}
use Rattle.net_model.specs.Nets.{width_at, nets_of}
use Rattle.net_model.specs.Value.{gate_value, net_value, value_within, value_of}
use Rattle.net_model.specs.Widths.{IsTyped, StateFits, WordFits, ValuesFit}
use Rattle.net_model.specs.Order.{position_of, IsOrder}
use Rattle.net_model.proofs.Agree.{same_net}
use Rattle.net_model.proofs.Fits.{value_fits}

module _ (netlist : Netlist) (s : State) (word : ℕ) (order : List ℕ) (o : IsOrder netlist order) where
  -- more depth than a net's place changes nothing
  pub stable : (b j k n : ℕ) → position_of order n < b → b ≤ j → b ≤ k → value_within j netlist s word n ≡ value_within k netlist s word n
  stable zero j k n h p q = absurd (omega arith)
  stable (suc b) zero k n h p q = absurd (omega arith)
  stable (suc b) (suc j) zero n h p q = absurd (omega arith)
  stable (suc b) (suc j) (suc k) n h p q =
      same_net (value_within j netlist s word) (value_within k netlist s word) netlist s word (slice_get netlist.nets n)
      (all_weaker (λ m. position_of order m < position_of order n) (λ m. value_within j netlist s word m ≡ value_within k netlist s word m)
      (λ m lt. stable b j k m (omega (arith, lt, h)) (omega (arith, p)) (omega (arith, q)))
      (nets_of (slice_get netlist.nets n)) (o.falls n))

  -- the equation of each net
  pub value_is : (n : ℕ) → n < length netlist.nets → value_of netlist s word n ≡ net_value (value_of netlist s word) netlist s word (slice_get netlist.nets n)
  value_is n h =
      stable (length netlist.nets) (length netlist.nets) (suc (length netlist.nets)) n (omega (arith, o.places n h, o.long)) (omega arith) (omega arith)

upper : (b : Bool) (k i : ℕ) → k ≤ i → cond b 0 (k + 1) ≤ suc i
upper true k i h = omega arith
upper false k i h = omega arith

lowest : (b : Bool) (k : ℕ) → b ≡ true → cond b 0 k ≤ 0
lowest true k e = omega arith
lowest false k e = cc

pub place_at : (order : List ℕ) (i : ℕ) → i < length order → position_of order (slice_index order i) ≤ i
place_at [] i h = absurd (omega arith)
place_at (x ∷ xs) zero h = lowest (x == x) (position_of xs x + 1) (eq-eqb x x refl)
place_at (x ∷ xs) (suc i) h =
    upper (x == slice_index xs i) (position_of xs (slice_index xs i)) i (place_at xs i (omega arith))

pub at_place : (order : List ℕ) (m : ℕ) → position_of order m < length order → slice_index order (position_of order m) ≡ m
at_place [] m h = absurd (omega arith)
at_place (x ∷ xs) m h =
    elim (cases_eq x m) as (λ _. slice_index (x ∷ xs) (position_of (x ∷ xs) m) ≡ m) [
      | inl e ↦
          let q : position_of (x ∷ xs) m ≡ 0 = ap (λ b. cond b 0 (position_of xs m + 1)) (eq-eqb x m e) in
          subst (λ k. slice_index (x ∷ xs) k ≡ m) (sym q) e
      | inr n ↦
          let q : position_of (x ∷ xs) m ≡ suc (position_of xs m) = ap (λ b. cond b 0 (position_of xs m + 1)) (ne_eqb x m n) ∙ add-one (position_of xs m) in
          subst (λ k. slice_index (x ∷ xs) k ≡ m) (sym q) (at_place xs m (omega (arith, q, h)))
    ]

-- one more net of the order
pub one_more : (netlist : Netlist) (order : List ℕ) → IsOrder netlist order → {A : Type 0} (P : ℕ → A → Type 0) (values : List A) (d x : A) (i : ℕ) → i < length order → length values ≡ length netlist.nets → ((m : ℕ) → position_of order m < i → P m (get_or values m d)) → P (slice_index order i) x → (m : ℕ) → position_of order m < i + 1 → P m (get_or (slice_set values (slice_index order i) x) m d)
one_more netlist order o P values d x i lt long before here m h =
    elim (cases_eq m (slice_index order i)) as (λ _. P m (get_or (slice_set values (slice_index order i) x) m d)) [
      | inl q ↦
          let within : slice_index order i < length values = omega (arith, o.nets i lt, long) in
          subst (λ k. P k (get_or (slice_set values (slice_index order i) x) k d)) (sym q)
          (subst (P (slice_index order i)) (sym (get_or-set_same values (slice_index order i) x d within)) here)
      | inr q ↦
          subst (P m) (sym (get_or-set_other values (slice_index order i) m x d q))
          (before m (elim (cases_eq (position_of order m) i) as (λ _. position_of order m < i) [
            | inl p ↦ absurd (q (sym (at_place order m (omega (arith, p, lt))) ∙ ap (slice_index order) p))
            | inr p ↦ omega (arith, p, h)
          ]))
    ]

module _ (netlist : Netlist) (s : State) (word : ℕ) (order : List ℕ) (o : IsOrder netlist order) (values : List ℕ) (i : ℕ) (within : i < length order) (done : (m : ℕ) → position_of order m < i → slice_index values m ≡ value_of netlist s word m) where
  -- the gate of the next net in order, at the values so far
  pub next_value : net_value (slice_index values) netlist s word (slice_get netlist.nets (slice_index order i)) ≡ value_of netlist s word (slice_index order i)
  next_value =
      let n : ℕ = slice_index order i in
      same_net (slice_index values) (value_of netlist s word) netlist s word (slice_get netlist.nets n)
      (all_weaker (λ m. position_of order m < position_of order n) (λ m. slice_index values m ≡ value_of netlist s word m)
      (λ m lt. done m (omega (arith, lt, place_at order i within)))
      (nets_of (slice_get netlist.nets n)) (o.falls n))
      ∙ sym (value_is netlist s word order o n (o.nets i within))

  -- one more net is done
  pub more_done : (x : ℕ) → length values ≡ length netlist.nets → x ≡ value_of netlist s word (slice_index order i) → (m : ℕ) → position_of order m < i + 1 → slice_index (slice_set values (slice_index order i) x) m ≡ value_of netlist s word m
  more_done x long e = one_more netlist order o (λ (m v : ℕ). v ≡ value_of netlist s word m) values 0 x i within long done e

-- no value past the nets
pub past_zero : (netlist : Netlist) (s : State) (word k n : ℕ) → slice_get netlist.nets n ≡ None → value_within k netlist s word n ≡ 0
past_zero netlist s word zero n e = refl
past_zero netlist s word (suc k) n e = ap (net_value (value_within k netlist s word) netlist s word) e

-- all nets are done
pub all_done : (netlist : Netlist) (s : State) (word : ℕ) (order : List ℕ) → IsOrder netlist order → (values : List ℕ) → length values ≡ length netlist.nets → ((m : ℕ) → position_of order m < length order → slice_index values m ≡ value_of netlist s word m) → (n : ℕ) → slice_index values n ≡ value_of netlist s word n
all_done netlist s word order o values long done n =
    elim (slice_get_cases netlist.nets n).1 as (λ _. slice_index values n ≡ value_of netlist s word n) [
      | inl w ↦ done n (o.places n w.1)
      | inr w ↦ get_or_past values n 0 (omega (arith, w.0, long)) ∙ sym (past_zero netlist s word (length netlist.nets) n w.1)
    ]

-- a value that fits its net, at one more net
pub fits_set : (netlist : Netlist) (values : List ℕ) (n x : ℕ) → n < length values → ValuesFit netlist (slice_index values) → x < 2 ^ width_at netlist n → ValuesFit netlist (slice_index (slice_set values n x))
fits_set netlist values n x lt fit h = record {
  fits = λ m.
      elim (cases_eq m n) as (λ _. slice_index (slice_set values n x) m < 2 ^ width_at netlist m) [
        | inl e ↦ subst (λ k. slice_index (slice_set values n x) k < 2 ^ width_at netlist k) (sym e) (rw (get_or-set_same values n x 0 lt) h)
        | inr e ↦ rw (get_or-set_other values n m x 0 e) (fit.fits m)
      ];
}

-- what one turn over the order does
module _ (netlist : Netlist) (s : State) (word : ℕ) (order : List ℕ) (o : IsOrder netlist order) (values : List ℕ) (i : ℕ) (within : i < length order) (long : length values ≡ length netlist.nets) (net : Net) (is : net ≡ get_or netlist.nets (slice_index order i) net) (x : ℕ) (e : x ≡ gate_value (slice_index values) netlist s word net.width net.gate) where
  pub there : slice_get netlist.nets (slice_index order i) ≡ Some net
  there = slice_get_read netlist.nets (length netlist.nets) (slice_index order i) net refl (o.nets i within) is

  pub turn_value : ((m : ℕ) → position_of order m < i → slice_index values m ≡ value_of netlist s word m) → x ≡ value_of netlist s word (slice_index order i)
  turn_value done =
      e ∙ sym (ap (net_value (slice_index values) netlist s word) there) ∙ next_value netlist s word order o values i within done

  pub turn_done : ((m : ℕ) → position_of order m < i → slice_index values m ≡ value_of netlist s word m) → (m : ℕ) → position_of order m < i + 1 → slice_index (slice_set values (slice_index order i) x) m ≡ value_of netlist s word m
  turn_done done = more_done netlist s word order o values i within done x long (turn_value done)

  pub turn_fits : IsTyped netlist → StateFits netlist s → WordFits netlist word → ((m : ℕ) → position_of order m < i → slice_index values m ≡ value_of netlist s word m) → ValuesFit netlist (slice_index values) → ValuesFit netlist (slice_index (slice_set values (slice_index order i) x))
  turn_fits t f w done fit =
      fits_set netlist values (slice_index order i) x (omega (arith, o.nets i within, long)) fit
      (rw (turn_value done) (value_fits netlist s word t f w (length netlist.nets) (slice_index order i)))
