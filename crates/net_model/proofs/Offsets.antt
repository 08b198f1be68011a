-- The offsets at which a test fails, and the least of them.
use Rattle.std.proofs.Common.{ℕ, zero, suc, ◌≡◌, ◌++◌, Bool, true, false, if◌then◌else◌, List, [], ◌∷◌, Some, None, slice_get, refl, ap, subst}
use Rattle.std.specs.List.{AllByRecursion}
use Rattle.rec_bits.proofs.Lists.{all_append}
use Rattle.rec_bits.specs.Faults.{least, gather}
use Rattle.rec_bits.proofs.Faults.{least_none}
use Rattle.net_model.specs.Control.{AllPass}
use Rattle.net_model.specs.NetFaults.{failing}

-- ---- what all of a list keeps

pub all_parts : (P : ℕ → Type 0) (xs ys : List ℕ) → AllByRecursion P (xs ++ ys) → AllByRecursion P xs × AllByRecursion P ys
all_parts P [] ys h = (tt, h)
all_parts P (x ∷ xs) ys h = let k : AllByRecursion P xs × AllByRecursion P ys = all_parts P xs ys h.1 in ((h.0, k.0), k.1)

module _ (P : ℕ → Type 0) {A : Type 0} (f : A → List ℕ) where
  pub all_gather : (xs : List A) → AllByRecursion (λ x. AllByRecursion P (f x)) xs → AllByRecursion P (gather f xs)
  all_gather [] h = tt
  all_gather (x ∷ xs) h = all_append P (f x) (gather f xs) h.0 (all_gather xs h.1)

  pub gather_all : (xs : List A) → AllByRecursion P (gather f xs) → AllByRecursion (λ x. AllByRecursion P (f x)) xs
  gather_all [] h = tt
  gather_all (x ∷ xs) h =
      let k : AllByRecursion P (f x) × AllByRecursion P (gather f xs) = all_parts P (f x) (gather f xs) h in
      (k.0, gather_all xs k.1)

  -- what one item gives
  pub gathered_at : (xs : List A) (i : ℕ) (x : A) → slice_get xs i ≡ Some x → AllByRecursion P (gather f xs) → AllByRecursion P (f x)
  gathered_at [] i x at h = absurd (cc)
  gathered_at (y ∷ xs) zero x at h = let e : y ≡ x = cc in subst (λ z. AllByRecursion P (f z)) e (all_parts P (f y) (gather f xs) h).0
  gathered_at (y ∷ xs) (suc i) x at h = gathered_at xs i x at (all_parts P (f y) (gather f xs) h).1

-- ---- nets that fail a test

module _ (test : ℕ → Bool) (offset : ℕ → ℕ) where
  one_kept : (b : Bool) (x : ℕ) (rest : List ℕ) → (if b then rest else (x ∷ rest)) ≡ [] → (b ≡ true) × (rest ≡ [])
  one_kept true x rest e = (refl, e)
  one_kept false x rest e = absurd (cc e)

  none_fails : (ns : List ℕ) → failing test offset ns ≡ [] → AllPass test ns
  none_fails [] e = tt
  none_fails (n ∷ ns) e =
      let k : (test n ≡ true) × (failing test offset ns ≡ []) = one_kept (test n) (offset n) (failing test offset ns) e in
      (k.0, none_fails ns k.1)

  -- there is no least offset where all pass, and nowhere else
  pub all_pass : (ns : List ℕ) → least (failing test offset ns) ≡ None → AllPass test ns
  all_pass ns e = none_fails ns (least_none _ e)

  pub no_least : (ns : List ℕ) → AllPass test ns → least (failing test offset ns) ≡ None
  no_least [] h = refl
  no_least (n ∷ ns) h = rw h.0 (no_least ns h.1)

  pub failing_append : (ms ns : List ℕ) → failing test offset (ms ++ ns) ≡ failing test offset ms ++ failing test offset ns
  failing_append [] ns = refl
  failing_append (m ∷ ms) ns = by_test (test m) (failing_append ms ns)
    where
      by_test : (b : Bool) → failing test offset (ms ++ ns) ≡ failing test offset ms ++ failing test offset ns → (if b then failing test offset (ms ++ ns) else (offset m ∷ failing test offset (ms ++ ns))) ≡ (if b then failing test offset ms else (offset m ∷ failing test offset ms)) ++ failing test offset ns
      by_test true e = e
      by_test false e = ap (λ (xs : List ℕ). offset m ∷ xs) e
