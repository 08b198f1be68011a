-- Nets sorted by a rank that is lower at the nets that they name are in an order.
use Rattle.std.proofs.Common.{◌≡◌, ℕ, zero, suc, ◌+◌, ◌<◌, ◌≤◌, ◌==◌, nat_lt, if◌then◌else◌, Bool, true, false, cond, List, [], ◌∷◌, length, slice_get, Option, Some, None, refl, ap, sym, ◌∙◌, subst, arith, inl, inr, eq-eqb}
use Rattle.std.specs.List.{AllByRecursion}
use Rattle.std.proofs.lemmas.Bool.{cases_eq, cases_lt, le-ltb, lt-ltb, ne_eqb}
use Rattle.std.proofs.lemmas.Option.{slice_get_within}
use Rattle.rec_bits.proofs.Lists.{all_weaker, all_index}
use Rattle.net_model.specs.declared.hardware.Net.{Net}
use Rattle.net_model.specs.declared.hardware.Netlist.{Netlist}
use Rattle.net_model.specs.Nets.{gate_nets, nets_of}
use Rattle.net_model.specs.Order.{IsOrder, position_of}
use Rattle.net_model.proofs.Orders.{at_place}

-- ---- numbers in a list

abbrev pub Has : List ℕ → ℕ → Type 0
Has xs m = position_of xs m < length xs

place_here : (x m : ℕ) (xs : List ℕ) → x ≡ m → position_of (x ∷ xs) m ≡ 0
place_here x m xs e = ap (λ b. cond b 0 (position_of xs m + 1)) (eq-eqb x m e)

place_behind : (x m : ℕ) (xs : List ℕ) → (x ≡ m → ⊥) → position_of (x ∷ xs) m ≡ position_of xs m + 1
place_behind x m xs ne = ap (λ b. cond b 0 (position_of xs m + 1)) (ne_eqb x m ne)

has_here : (x m : ℕ) (xs : List ℕ) → x ≡ m → Has (x ∷ xs) m
has_here x m xs e = let q = place_here x m xs e in omega (arith, q)

has_behind : (x m : ℕ) (xs : List ℕ) → Has xs m → Has (x ∷ xs) m
has_behind x m xs h = by (x == m)
  where
    by : (b : Bool) → cond b 0 (position_of xs m + 1) < length (x ∷ xs)
    by true = omega arith
    by false = omega (arith, h)

has_rest : (x m : ℕ) (xs : List ℕ) → (x ≡ m → ⊥) → Has (x ∷ xs) m → Has xs m
has_rest x m xs ne h = let q = place_behind x m xs ne in omega (arith, q, h)

at_number : (P : ℕ → Type 0) (xs : List ℕ) (m : ℕ) → AllByRecursion P xs → Has xs m → P m
at_number P xs m h has = subst P (at_place xs m has) (all_index P xs (position_of xs m) h has)

module _ (rank : ℕ → ℕ) where
  -- ---- a sort by rank

  abbrev pub put : ℕ → List ℕ → List ℕ
  put n [] = n ∷ []
  put n (x ∷ xs) = if nat_lt (rank n) (rank x) then (n ∷ x ∷ xs) else (x ∷ put n xs)

  -- the numbers below a bound
  abbrev pub sorted : ℕ → List ℕ
  sorted zero = []
  sorted (suc n) = put n (sorted n)

  abbrev IsSorted : List ℕ → Type 0
  IsSorted [] = Unit {0}
  IsSorted (x ∷ xs) = AllByRecursion (λ y. rank x ≤ rank y) xs × IsSorted xs

  put_all : (P : ℕ → Type 0) (n : ℕ) (xs : List ℕ) → P n → AllByRecursion P xs → AllByRecursion P (put n xs)
  put_all P n [] here h = (here, tt)
  put_all P n (x ∷ xs) here h = by (nat_lt (rank n) (rank x)) (put_all P n xs here h.1)
    where
      by : (b : Bool) → AllByRecursion P (put n xs) → AllByRecursion P (cond b (n ∷ x ∷ xs) (x ∷ put n xs))
      by true later = (here, h)
      by false later = (h.0, later)

  put_length : (n : ℕ) (xs : List ℕ) → length (put n xs) ≡ suc (length xs)
  put_length n [] = refl
  put_length n (x ∷ xs) = by (nat_lt (rank n) (rank x)) (put_length n xs)
    where
      by : (b : Bool) → length (put n xs) ≡ suc (length xs) → length (cond b (n ∷ x ∷ xs) (x ∷ put n xs)) ≡ suc (length (x ∷ xs))
      by true later = refl
      by false later = ap suc later

  put_sorted : (n : ℕ) (xs : List ℕ) → IsSorted xs → IsSorted (put n xs)
  put_sorted n [] h = (tt, tt)
  put_sorted n (x ∷ xs) h =
      elim (cases_lt (rank n) (rank x)) as (λ _. IsSorted (put n (x ∷ xs))) [
        | inl lt ↦
            let all : AllByRecursion (λ y. rank n ≤ rank y) xs = all_weaker (λ y. rank x ≤ rank y) (λ y. rank n ≤ rank y) (λ y q. omega (arith, lt, q)) xs h.0 in
            subst (λ b. IsSorted (cond b (n ∷ x ∷ xs) (x ∷ put n xs))) (sym (lt-ltb (rank n) (rank x) lt)) ((omega (arith, lt), all), h)
        | inr ge ↦
            subst (λ b. IsSorted (cond b (n ∷ x ∷ xs) (x ∷ put n xs))) (sym (le-ltb (rank n) (rank x) ge))
            (put_all (λ y. rank x ≤ rank y) n xs ge h.0, put_sorted n xs h.1)
      ]

  put_here : (n : ℕ) (xs : List ℕ) → Has (put n xs) n
  put_here n [] = has_here n n [] refl
  put_here n (x ∷ xs) = by (nat_lt (rank n) (rank x)) (put_here n xs)
    where
      by : (b : Bool) → Has (put n xs) n → Has (cond b (n ∷ x ∷ xs) (x ∷ put n xs)) n
      by true later = has_here n n (x ∷ xs) refl
      by false later = has_behind x n (put n xs) later

  put_keeps : (n m : ℕ) (xs : List ℕ) → Has xs m → Has (put n xs) m
  put_keeps n m [] h = absurd (omega (arith, h))
  put_keeps n m (x ∷ xs) h = by (nat_lt (rank n) (rank x)) (λ q. put_keeps n m xs q)
    where
      by : (b : Bool) → (Has xs m → Has (put n xs) m) → Has (cond b (n ∷ x ∷ xs) (x ∷ put n xs)) m
      by true later = has_behind n m (x ∷ xs) h
      by false later =
          elim (cases_eq x m) as (λ _. Has (x ∷ put n xs) m) [
            | inl e ↦ has_here x m (put n xs) e
            | inr ne ↦ has_behind x m (put n xs) (later (has_rest x m xs ne h))
          ]

  sorted_is : (n : ℕ) → IsSorted (sorted n)
  sorted_is zero = tt
  sorted_is (suc n) = put_sorted n (sorted n) (sorted_is n)

  sorted_length : (n : ℕ) → length (sorted n) ≡ n
  sorted_length zero = refl
  sorted_length (suc n) = put_length n (sorted n) ∙ ap suc (sorted_length n)

  sorted_below : (n : ℕ) → AllByRecursion (λ m. m < n) (sorted n)
  sorted_below zero = tt
  sorted_below (suc n) =
      put_all (λ m. m < suc n) n (sorted n) (omega arith)
      (all_weaker (λ m. m < n) (λ m. m < suc n) (λ m q. omega (arith, q)) (sorted n) (sorted_below n))

  sorted_has : (n m : ℕ) → m < n → Has (sorted n) m
  sorted_has zero m lt = absurd (omega arith)
  sorted_has (suc n) m lt =
      elim (cases_eq m n) as (λ _. Has (put n (sorted n)) m) [
        | inl e ↦ subst (λ k. Has (put n (sorted n)) k) (sym e) (put_here n (sorted n))
        | inr ne ↦ put_keeps n m (sorted n) (sorted_has n m (let f : m ≡ n → ⊥ = ne in omega (arith, lt)))
      ]

  -- a number of a lower rank stands before
  sooner : (xs : List ℕ) (m n : ℕ) → IsSorted xs → Has xs m → Has xs n → rank m < rank n → position_of xs m < position_of xs n
  sooner [] m n h hm hn lt = absurd (omega (arith, hm))
  sooner (x ∷ xs) m n h hm hn lt =
      elim (cases_eq x n) as (λ _. position_of (x ∷ xs) m < position_of (x ∷ xs) n) [
        | inl e ↦ elim (cases_eq x m) as (λ _. position_of (x ∷ xs) m < position_of (x ∷ xs) n) [
          | inl f ↦ let q : rank m ≡ rank n = ap rank (sym f ∙ e) in absurd (omega (arith, q, lt))
          | inr f ↦
              let r : rank x ≤ rank m = at_number (λ y. rank x ≤ rank y) xs m h.0 (has_rest x m xs f hm) in
              let q : rank x ≡ rank n = ap rank e in
              absurd (omega (arith, q, r, lt))
        ]
        | inr e ↦ elim (cases_eq x m) as (λ _. position_of (x ∷ xs) m < position_of (x ∷ xs) n) [
          | inl f ↦ let a = place_here x m xs f in let b = place_behind x n xs e in omega (arith, a, b)
          | inr f ↦
              let a = place_behind x m xs f in
              let b = place_behind x n xs e in
              let r = sooner xs m n h.1 (has_rest x m xs f hm) (has_rest x n xs e hn) lt in
              omega (arith, a, b, r)
        ]
      ]

  -- what a net names is there, and of a lower rank
  abbrev pub IsLow : Netlist → ℕ → ℕ → Type 0
  IsLow netlist bound m = (m < length netlist.nets) × (rank m < bound)

  pub ranked : (netlist : Netlist) → ((n : ℕ) (net : Net) → slice_get netlist.nets n ≡ Some net → AllByRecursion (IsLow netlist (rank n)) (gate_nets net.gate)) → IsOrder netlist (sorted (length netlist.nets))
  ranked netlist low =
      record {
        long = sorted_length (length netlist.nets);
        nets = λ i lt. all_index (λ m. m < length netlist.nets) (sorted (length netlist.nets)) i (sorted_below (length netlist.nets)) lt;
        places = λ n lt. sorted_has (length netlist.nets) n lt;
        falls = λ n. by n (slice_get netlist.nets n) refl;
      }
    where
      by : (n : ℕ) (o : Option Net) → slice_get netlist.nets n ≡ o → AllByRecursion (λ m. position_of (sorted (length netlist.nets)) m < position_of (sorted (length netlist.nets)) n) (nets_of o)
      by n None e = tt
      by n (Some net) e =
          all_weaker (IsLow netlist (rank n)) (λ m. position_of (sorted (length netlist.nets)) m < position_of (sorted (length netlist.nets)) n)
          (λ m q. sooner (sorted (length netlist.nets)) m n (sorted_is (length netlist.nets))
          (sorted_has (length netlist.nets) m q.0)
          (sorted_has (length netlist.nets) n (slice_get_within netlist.nets n net e)) q.1)
          (gate_nets net.gate) (low n net e)
