-- What holds of all of a list of nets, by a test, by a fact, or by membership.
use Rattle.std.proofs.Common.{◌≡◌, ℕ, nat_eq, Bool, true, false, List, [], ◌∷◌, refl, sym, subst}
use Rattle.std.specs.List.{AllByRecursion, list_any}
use Rattle.std.proofs.lemmas.Bool.{eqb-true, eq-eqb}
use Rattle.rec_bits.proofs.Booleans.{both, or_left, or_right}
use Rattle.net_model.specs.Symbolic.{all_nets}

-- what holds of all holds of one
pub fact_of : (P : ℕ → Type 0) (ns : List ℕ) (n : ℕ) → AllByRecursion P ns → list_any (nat_eq n) ns ≡ true → P n
fact_of P [] n h e = cc
fact_of P (m ∷ ns) n h e = by (nat_eq n m) refl (fact_of P ns n h.1)
  where
    by : (b : Bool) → nat_eq n m ≡ b → (list_any (nat_eq n) ns ≡ true → P n) → P n
    by true q later = subst P (sym (eqb-true n m q)) h.0
    by false q later = later (rw q at e)

pub test_of : (f : ℕ → Bool) (ns : List ℕ) (n : ℕ) → all_nets f ns ≡ true → list_any (nat_eq n) ns ≡ true → f n ≡ true
test_of f ns n h e = fact_of (λ m. f m ≡ true) ns n (facts f ns h) e
  where
    facts : (f : ℕ → Bool) (ns : List ℕ) → all_nets f ns ≡ true → AllByRecursion (λ m. f m ≡ true) ns
    facts f [] h = tt
    facts f (m ∷ ns) h = let p : (f m ≡ true) × (all_nets f ns ≡ true) = both (f m) (all_nets f ns) h in (p.0, facts f ns p.1)

-- what holds of each of a list holds of all
pub facts_of : (P : ℕ → Type 0) (ns : List ℕ) → ((n : ℕ) → list_any (nat_eq n) ns ≡ true → P n) → AllByRecursion P ns
facts_of P [] h = tt
facts_of P (m ∷ ns) h =
    (h m (or_left (nat_eq m m) _ (eq-eqb m m refl)), facts_of P ns (λ n e. h n (or_right (nat_eq n m) _ e)))

pub tests_of : (f : ℕ → Bool) (ns : List ℕ) → AllByRecursion (λ n. f n ≡ true) ns → all_nets f ns ≡ true
tests_of f [] h = refl
tests_of f (m ∷ ns) h = rw h.0 (tests_of f ns h.1)

pub tests_each : (f : ℕ → Bool) (ns : List ℕ) → all_nets f ns ≡ true → AllByRecursion (λ n. f n ≡ true) ns
tests_each f ns h = facts_of (λ n. f n ≡ true) ns (λ n e. test_of f ns n h e)
