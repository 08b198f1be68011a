-- Runs of bytes of one class.
use Rattle.std.proofs.Common.{◌≡◌, ℕ, zero, suc, ◌+◌, ◌≤◌, List, [], ◌∷◌, length, take, Bool, true, false, cond, refl, sym, ap, subst, ◌∙◌, arith}
use Rattle.std.proofs.lemmas.List.Elements.{All-nil, All-cons, All-head, All-tail}
use Rattle.std.proofs.lemmas.List.Folds.{length-prefix_len}
use Rattle.std.specs.Prelude.{take_while}
use Rattle.std.specs.List.{prefix_len}
use Rattle.lexing.specs.Bytes.{begins_with}
use Rattle.lexing.specs.Laws.{IsRun}

prefix_run : (p : ℕ → Bool) (xs : List ℕ) → IsRun p (prefix_len p xs) xs
prefix_run p [] = record { within = omega arith; all = All-nil (λ x. p x ≡ true); ends = refl }
prefix_run p (x ∷ xs) = step (p x) refl (prefix_run p xs)
  where
    step : (t : Bool) → p x ≡ t → IsRun p (prefix_len p xs) xs → IsRun p (cond t (1 + prefix_len p xs) 0) (x ∷ xs)
    step true e rest =
        let k : suc (prefix_len p xs) ≡ 1 + prefix_len p xs = omega arith in
        subst (λ n. IsRun p n (x ∷ xs)) k (record { within = omega (arith, rest.within); all = All-cons (λ y. p y ≡ true) x (take (prefix_len p xs) xs) e rest.all; ends = rest.ends })
    step false e rest = record { within = omega arith; all = All-nil (λ y. p y ≡ true); ends = e }

pub run_at : (p : ℕ → Bool) (xs : List ℕ) → IsRun p (length (take_while p xs)) xs
run_at p xs = subst (λ n. IsRun p n xs) (sym (length-prefix_len p xs)) (prefix_run p xs)

-- what a run takes is what it is long
pub run_own : (p : ℕ → Bool) (xs : List ℕ) → take (length (take_while p xs)) xs ≡ take_while p xs
run_own p xs = ap (λ n. take n xs) (length-prefix_len p xs)

pub run_unique : (p : ℕ → Bool) (n : ℕ) (xs : List ℕ) → IsRun p n xs → n ≡ length (take_while p xs)
run_unique p n xs run = go n xs run ∙ sym (length-prefix_len p xs)
  where
    go : (n : ℕ) (xs : List ℕ) → IsRun p n xs → n ≡ prefix_len p xs
    go zero [] run = refl
    go zero (x ∷ xs) run = sym (ap (λ t. cond t (1 + prefix_len p xs) 0) run.ends)
    go (suc n) [] run = absurd (omega (arith, run.within))
    go (suc n) (x ∷ xs) run =
        let first : p x ≡ true = All-head (λ y. p y ≡ true) x (take n xs) run.all in
        let rest : n ≡ prefix_len p xs = go n xs (record { within = omega (arith, run.within); all = All-tail (λ y. p y ≡ true) x (take n xs) run.all; ends = run.ends }) in
        let k : suc n ≡ 1 + prefix_len p xs = omega arith in
        k ∙ sym (ap (λ t. cond t (1 + prefix_len p xs) 0) first)

-- a run that isn't empty
pub run_begins : (p : ℕ → Bool) (n : ℕ) (xs : List ℕ) → 1 ≤ n → IsRun p n xs → begins_with p xs ≡ true
run_begins p zero xs some run = absurd (omega arith)
run_begins p (suc n) [] some run = absurd (omega (arith, run.within))
run_begins p (suc n) (x ∷ xs) some run = All-head (λ y. p y ≡ true) x (take n xs) run.all

pub run_some : (p : ℕ → Bool) (xs : List ℕ) → begins_with p xs ≡ true → 1 ≤ length (take_while p xs)
run_some p [] h = absurd cc
run_some p (x ∷ xs) h =
    let q : prefix_len p (x ∷ xs) ≡ 1 + prefix_len p xs = rw h refl in
    omega (arith, length-prefix_len p (x ∷ xs), q)
