-- The numbers of a case's rows: none is there twice, and without a rest all are there.
use Rattle.std.proofs.Common.{ℕ, ◌≡◌, ◌+◌, ◌^◌, ◌<◌, ◌≤◌, ◌==◌, ◌||◌, Bool, true, false, not, List, [], ◌∷◌, ◌++◌, length, map, Option, Some, inl, inr, refl, sym, ap, ◌∙◌, subst, arith, IsTrue, nat_le, nat_eq}
use Rattle.std.specs.List.{AllByRecursion, IsDistinct, list_any}
use Rattle.std.proofs.lemmas.Bool.Decides.{nat_tests}
use Rattle.std.proofs.lemmas.Bool.{cases_eq, ne_eqb}
use Rattle.std.proofs.lemmas.Map.Steps.{length-le_from_distinct_below}
use Rattle.net_model.specs.CheckedRules.{IsWhole, row_numbers}
use Rattle.net_model.specs.Written.{CaseRowsModel, no_rows, row, CaseRestModel, no_rest, rest}
use Rattle.net_model.specs.TextNames.{ScopeModel}
use Rattle.net_model.specs.TextWidths.{is_below, numbers_fit}
use Rattle.net_model.specs.DriverRules.{is_covered, is_rest, are_all, are_new, case_numbers as numbers_of}
use Rattle.net_model.specs.Numbering.{SiteModel, count}
use Rattle.net_model.specs.Elaborated.{out_of, row_pairs, rest_out}
use Rattle.rec_bits.proofs.Booleans.{and_left, and_right, not_true, left_false, right_false}
use Rattle.net_elab.proofs.Cases.{RowsHave}

-- the numbers of the rows are those that are written
numbers_more : (out : ℕ) (numbers : List ℕ) (pairs : List (ℕ × ℕ)) → row_numbers (map (λ (n : ℕ). (n, out)) numbers ++ pairs) ≡ numbers ++ row_numbers pairs
numbers_more out [] pairs = refl
numbers_more out (n ∷ numbers) pairs = ap (λ (ns : List ℕ). n ∷ ns) (numbers_more out numbers pairs)

pub same_numbers : (site : SiteModel) (start : ℕ) (rows : CaseRowsModel) → row_numbers (row_pairs site start rows) ≡ numbers_of rows
same_numbers site start no_rows = refl
same_numbers site start (row numbers a rows) =
    numbers_more (out_of site start a) numbers (row_pairs site (start + count a) rows) ∙ ap (λ (ns : List ℕ). numbers ++ ns) (same_numbers site (start + count a) rows)

-- ---- apart

any_left : (m : ℕ) (xs ys : List ℕ) → list_any (nat_eq m) (xs ++ ys) ≡ false → list_any (nat_eq m) xs ≡ false
any_left m [] ys h = refl
any_left m (x ∷ xs) ys h =
    let r = any_left m xs ys (right_false (nat_eq m x) (list_any (nat_eq m) (xs ++ ys)) h) in
    rw (left_false (nat_eq m x) (list_any (nat_eq m) (xs ++ ys)) h, r) refl

any_last : (m n : ℕ) (xs : List ℕ) → list_any (nat_eq m) (xs ++ n ∷ []) ≡ false → nat_eq n m ≡ false
any_last m n [] h = let k : nat_eq m n ≡ false = left_false (nat_eq m n) false h in grind (arith, nat_tests)
any_last m n (x ∷ xs) h = any_last m n xs (right_false (nat_eq m x) (list_any (nat_eq m) (xs ++ n ∷ [])) h)

apart_from : (b : ℕ) (before numbers : List ℕ) → ((m : ℕ) → list_any (nat_eq m) before ≡ false → nat_eq b m ≡ false) → IsTrue (are_new before numbers) → AllByRecursion (λ m. nat_eq b m ≡ false) numbers
apart_from b before [] f h = tt
apart_from b before (n ∷ numbers) f h = (
  f n (not_true (list_any (nat_eq n) before) (and_left _ _ h)),
  apart_from b (before ++ n ∷ []) numbers (λ m e. f m (any_left m before (n ∷ []) e)) (and_right (not (list_any (nat_eq n) before)) _ h),
)

new_distinct : (before numbers : List ℕ) → IsTrue (are_new before numbers) → IsDistinct nat_eq numbers
unfolding IsDistinct
new_distinct before [] h = tt
new_distinct before (n ∷ numbers) h =
    let k = and_right (not (list_any (nat_eq n) before)) (are_new (before ++ n ∷ []) numbers) h in
    (apart_from n (before ++ n ∷ []) numbers (λ m e. any_last m n before e) k, new_distinct (before ++ n ∷ []) numbers k)

pub rows_apart : (site : SiteModel) (start : ℕ) (selector : Option ℕ) (rows : CaseRowsModel) (other : CaseRestModel) → IsTrue (is_covered selector rows other) → IsDistinct nat_eq (row_numbers (row_pairs site start rows))
rows_apart site start selector rows other h =
    subst (λ (ns : List ℕ). IsDistinct nat_eq ns) (sym (same_numbers site start rows)) (new_distinct [] (numbers_of rows) (and_left _ _ h))

-- ---- whole

abbrev member : ℕ → List ℕ → Bool
member k ks = list_any (nat_eq k) ks

none_is : (k : ℕ) (ks : List ℕ) → member k ks ≡ false → AllByRecursion (λ y. nat_eq k y ≡ false) ks
none_is k [] h = tt
none_is k (x ∷ xs) h = (left_false (nat_eq k x) _ h, none_is k xs (right_false (nat_eq k x) _ h))

distinct_more : (k : ℕ) (ks : List ℕ) → member k ks ≡ false → IsDistinct nat_eq ks → IsDistinct nat_eq (k ∷ ks)
unfolding IsDistinct
distinct_more k ks h d = (none_is k ks h, d)

below_one_more : (k n : ℕ) (ks : List ℕ) → k < n → ((q : ℕ) → member q ks ≡ true → q < n) → (q : ℕ) → member q (k ∷ ks) ≡ true → q < n
below_one_more k n ks h b q e = elim (cases_eq q k) [
  | inl i ↦ subst (λ (x : ℕ). x < n) (sym i) h
  | inr ne ↦ b q (rw (ne_eqb q k ne) at e)
]

too_many : (k n : ℕ) (ks : List ℕ) → IsDistinct nat_eq ks → ((q : ℕ) → member q ks ≡ true → q < n) → length ks ≡ n → k < n → member k ks ≡ false → ⊥
too_many k n ks d b l h e =
    let z : length (k ∷ ks) ≤ n = length-le_from_distinct_below (k ∷ ks) n (distinct_more k ks e d) (below_one_more k n ks h b) in absurd (omega (arith, l, z))

-- as many numbers as there are, apart and below them, are all
all_there : (ks : List ℕ) (n : ℕ) → IsDistinct nat_eq ks → ((q : ℕ) → member q ks ≡ true → q < n) → length ks ≡ n → (k : ℕ) → k < n → member k ks ≡ true
all_there ks n d b l k h = go (member k ks) refl
  where
    go : (m : Bool) → member k ks ≡ m → member k ks ≡ true
    go true e = e
    go false e = absurd (too_many k n ks d b l h e)

-- each number of the rows is below 2 ^ key
or_cases : (a b : Bool) (q x n : ℕ) → nat_eq q x ≡ a → a || b ≡ true → x < n → (b ≡ true → q < n) → q < n
or_cases true b q x n e h l f = let s : q ≡ x = grind (arith, nat_tests, e) in omega arith
or_cases false b q x n e h l f = f h

below_in : (key : ℕ) (numbers more : List ℕ) → IsTrue (numbers_fit key numbers) → ((q : ℕ) → member q more ≡ true → q < 2 ^ key) → (q : ℕ) → member q (numbers ++ more) ≡ true → q < 2 ^ key
below_in key [] more f g q h = g q h
below_in key (n ∷ numbers) more f g q h =
    let b : IsTrue (nat_le (n + 1) (2 ^ key)) = and_left (is_below n key) (numbers_fit key numbers) f in
    let k : n < 2 ^ key = grind (arith, nat_tests, b) in
    or_cases (nat_eq q n) (member q (numbers ++ more)) q n (2 ^ key) refl h k
    (below_in key numbers more (and_right (is_below n key) (numbers_fit key numbers) f) g q)

rows_below : (s : ScopeModel) (key w : ℕ) (rows : CaseRowsModel) → RowsHave s key w rows → (q : ℕ) → member q (numbers_of rows) ≡ true → q < 2 ^ key
rows_below s key w no_rows h q e = absurd (cc e)
rows_below s key w (row numbers a rows) h q e = below_in key numbers (numbers_of rows) h.0 (rows_below s key w rows h.2) q e

pub rows_whole : (site : SiteModel) (start later : ℕ) (s : ScopeModel) (key w : ℕ) (rows : CaseRowsModel) (other : CaseRestModel) → RowsHave s key w rows → IsTrue (is_covered (Some key) rows other)
    → IsWhole key (row_pairs site start rows) (rest_out site later other)
rows_whole site start later s key w rows (rest a) h c = tt
rows_whole site start later s key w rows no_rest h c = λ k l.
    let apart = new_distinct [] (numbers_of rows) (and_left (are_new [] (numbers_of rows)) (is_rest no_rest || are_all (Some key) (numbers_of rows)) c) in
    let count_is : IsTrue (length (numbers_of rows) == 2 ^ key) = and_right (are_new [] (numbers_of rows)) (is_rest no_rest || are_all (Some key) (numbers_of rows)) c in
    let long : length (numbers_of rows) ≡ 2 ^ key = grind (arith, nat_tests, count_is) in
    subst (λ (ns : List ℕ). IsTrue (list_any (nat_eq k) ns)) (sym (same_numbers site start rows))
    (all_there (numbers_of rows) (2 ^ key) apart (rows_below s key w rows h) long k l)
