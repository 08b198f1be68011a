-- The numbers of the rows of a case.
use Rattle.std.proofs.Common.{ℕ, ◌≡◌, ◌+◌, ◌^◌, ◌<◌, ◌≤◌, Bool, true, false, ◌&&◌, not, nat_eq, List, [], ◌∷◌, ◌++◌, length, get_or, drop, refl, sym, ap, ◌∙◌, append_assoc, arith}
use Rattle.std.specs.List.{list_any}
use Rattle.std.proofs.Math.Nat.{pow-le-pow_right}
use Rattle.std.proofs.lemmas.Bool.{ne_eqb}
use Rattle.rec_bits.proofs.Booleans.{and_assoc}
use Rattle.net_model.specs.DriverRules.{are_new, case_numbers}
use Rattle.net_model.proofs.Cases.{Row}
use Rattle.net_rules.proofs.Rows.{seen_rows, rows_item}

-- no 64 bits hold as many numbers as a wide selector has
pub too_few : (count width : ℕ) → count < 2 ^ 64 → 64 ≤ width → false ≡ nat_eq count (2 ^ width)
too_few count width h w =
    let two : 0 < 2 = omega arith in
    let p : 2 ^ 64 ≤ 2 ^ width = pow-le-pow_right two w in
    sym (ne_eqb count (2 ^ width) (λ e. let q : 2 ^ width < 2 ^ 64 = omega (arith, h, e) in omega (arith, p, q)))

no_name : (xs : List ℕ) → xs ++ [] ≡ xs
no_name [] = refl
no_name (x ∷ xs) = ap (λ ys. x ∷ ys) (no_name xs)

pub are_new_append : (before xs ys : List ℕ) → are_new before (xs ++ ys) ≡ (are_new before xs && are_new (before ++ xs) ys)
are_new_append before [] ys = ap (λ b. are_new b ys) (sym (no_name before))
are_new_append before (x ∷ xs) ys =
    ap (λ b. not (list_any (nat_eq x) before) && b) (are_new_append (before ++ x ∷ []) xs ys ∙ ap (λ b. are_new (before ++ x ∷ []) xs && are_new b ys) (append_assoc before (x ∷ []) xs))
    ∙ sym (and_assoc (not (list_any (nat_eq x) before)) (are_new (before ++ x ∷ []) xs) (are_new (before ++ x ∷ xs) ys))

module _ (rows : List Row) (i : ℕ) (x : Row) (there : i < length rows) (is : x ≡ get_or rows i x) (before : List ℕ) where
  parts : case_numbers (seen_rows (drop i rows)) ≡ x.0.items ++ case_numbers (seen_rows (drop (i + 1) rows))
  parts = ap case_numbers (rows_item rows i x there is)

  split : are_new before (case_numbers (seen_rows (drop i rows))) ≡ (are_new before x.0.items && are_new (before ++ x.0.items) (case_numbers (seen_rows (drop (i + 1) rows))))
  split = ap (are_new before) parts ∙ are_new_append before x.0.items (case_numbers (seen_rows (drop (i + 1) rows)))

  -- a number that is there already
  pub numbers_stop : (all : Bool) → are_new before x.0.items ≡ false → are_new before (case_numbers (seen_rows (drop i rows))) ≡ all → all ≡ false
  numbers_stop all old h = sym h ∙ split ∙ ap (λ b. b && are_new (before ++ x.0.items) (case_numbers (seen_rows (drop (i + 1) rows)))) old

  -- and one row further
  pub numbers_next : (all : Bool) → are_new before x.0.items ≡ true → are_new before (case_numbers (seen_rows (drop i rows))) ≡ all → are_new (before ++ x.0.items) (case_numbers (seen_rows (drop (i + 1) rows))) ≡ all
  numbers_next all new h = sym (ap (λ b. b && are_new (before ++ x.0.items) (case_numbers (seen_rows (drop (i + 1) rows)))) new) ∙ sym split ∙ h

  pub numbers_so_far : (all : List ℕ) → before ++ case_numbers (seen_rows (drop i rows)) ≡ all → before ++ x.0.items ++ case_numbers (seen_rows (drop (i + 1) rows)) ≡ all
  numbers_so_far all h = append_assoc before x.0.items (case_numbers (seen_rows (drop (i + 1) rows))) ∙ ap (λ ns. before ++ ns) (sym parts) ∙ h
