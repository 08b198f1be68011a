-- Numbers and names as they are written.
use Rattle.std.proofs.Common.{◌≡◌, ◌==◌, ◌&&◌, not, ℕ, zero, suc, ◌-◌, ◌<◌, ◌^◌, List, [], ◌∷◌, length, get_or, Bool, true, false, cond, Some, None, refl, sym, eq-eqb, eqb-true, arith, rules}
use Rattle.std.proofs.lemmas.Fmt.{decimal-digits_value, digits_decimal, digits_value-decimal, decimal_nonempty, first_decimal, decimal_digit}
use Rattle.std.proofs.lemmas.Str.Parse.{IsNumeralModel, numerals_by_fold}
use Rattle.std.proofs.lemmas.Bool.{ltb-true, lt-ltb}
use Rattle.std.specs.Fmt.{decimal}
use Rattle.std.specs.Prelude.{nat_lt, nat_le}
use Rattle.std.specs.List.{list_all}
use Rattle.rec_bits.proofs.Booleans.{both}
use Rattle.lexing.specs.Bytes.{is_digit, is_letter, is_name_byte, begins_with}
use Rattle.text_lines.specs.Fields.{number_of, decimal_from, is_canonical, are_digits, is_name, are_name_bytes}
use Rattle.text_lines.proofs.Parts.{Avoids}

own : IsNumeralModel (λ ds. are_digits ds ≡ true) (decimal_from 0)
own = numerals_by_fold _ (search rules) decimal_from (search rules)

plain_some : (ds : List ℕ) → is_canonical ds ≡ true → 0 < length ds
plain_some [] e = absurd cc
plain_some (d ∷ ds) e = omega arith

plain_zero : (ds : List ℕ) → is_canonical ds ≡ true → get_or ds 0 0 ≡ 48 → length ds ≡ 1
plain_zero [] e f = absurd cc
plain_zero (d ∷ []) e f = refl
plain_zero (d ∷ c ∷ ds) e f = absurd (let q : (d == 48) ≡ true = eq-eqb d 48 f in cc)

is_plain_when : (ds : List ℕ) → 0 < length ds → (48 < get_or ds 0 0) → is_canonical ds ≡ true
is_plain_when [] some h = absurd (omega arith)
is_plain_when (d ∷ []) some h = refl
is_plain_when (d ∷ c ∷ ds) some h = step (d == 48) refl
  where
    step : (t : Bool) → (d == 48) ≡ t → not t ≡ true
    step true e = absurd (omega (arith, eqb-true d 48 e))
    step false e = refl

guarded : (a b : Bool) (v n : ℕ) → cond a (cond b (Some v) None) None ≡ Some n → (a ≡ true) × (b ≡ true) × (v ≡ n)
guarded false b v n e = absurd cc
guarded true false v n e = absurd cc
guarded true true v n e = (refl, refl, cc)

guard : (a b : Bool) (v n : ℕ) → a ≡ true → b ≡ true → v ≡ n → cond a (cond b (Some v) None) None ≡ Some n
guard a b v n p q e = rw (p, q, e) refl

-- a number that is read is written so
pub number_is : (text : List ℕ) (n : ℕ) → number_of text ≡ Some n → (text ≡ decimal n) × (n < 2 ^ 64)
unfolding number_of
number_is text n e =
    let p = guarded (is_canonical text && are_digits text) (nat_lt (decimal_from 0 text) (2 ^ 64)) (decimal_from 0 text) n e in
    let q = both (is_canonical text) (are_digits text) p.0 in
    let small : decimal_from 0 text < 2 ^ 64 = ltb-true (decimal_from 0 text) (2 ^ 64) p.1 in
    let back : decimal (decimal_from 0 text) ≡ text = decimal-digits_value own text q.1 (plain_some text q.0) (plain_zero text q.0) small in
    (sym (rw p.2 at back), rw (← p.2) small)

plain_decimal : (n : ℕ) → n < 2 ^ 64 → is_canonical (decimal n) ≡ true
plain_decimal zero h = rw (decimal_digit 0 (omega arith)) refl
plain_decimal (suc n) h = is_plain_when (decimal (suc n)) (decimal_nonempty (suc n) h) (first_decimal (suc n) (omega arith) h)

-- a number that is written is read
pub number_again : (n : ℕ) → n < 2 ^ 64 → number_of (decimal n) ≡ Some n
unfolding number_of
number_again n h =
    let digits : are_digits (decimal n) ≡ true = digits_decimal own n h in
    let value : decimal_from 0 (decimal n) ≡ n = digits_value-decimal own n h in
    guard (is_canonical (decimal n) && are_digits (decimal n)) (nat_lt (decimal_from 0 (decimal n)) (2 ^ 64)) (decimal_from 0 (decimal n)) n
    (rw (plain_decimal n h) digits) (rw value (lt-ltb n (2 ^ 64) h)) value

-- no number, name and such has a byte that isn't of its class
avoids-class : (p : ℕ → Bool) (mark : ℕ) → p mark ≡ false → (text : List ℕ) → list_all p text ≡ true → Avoids mark text
avoids-class p mark out [] e = tt
avoids-class p mark out (b ∷ bs) e =
    let q = both (p b) (list_all p bs) e in
    (step (b == mark) refl q.0, avoids-class p mark out bs q.1)
  where
    step : (t : Bool) → (b == mark) ≡ t → p b ≡ true → t ≡ false
    step true e f = let same : b ≡ mark = eqb-true b mark e in absurd (let g : p mark ≡ true = rw (← same) f in cc)
    step false e f = refl

pub avoids-decimal : (mark n : ℕ) → is_digit mark ≡ false → n < 2 ^ 64 → Avoids mark (decimal n)
avoids-decimal mark n out h = avoids-class is_digit mark out (decimal n) (digits_decimal own n h)

pub avoids-name : (mark : ℕ) (name : List ℕ) → is_name_byte mark ≡ false → is_name name ≡ true → Avoids mark name
unfolding is_name
avoids-name mark name out h = avoids-class is_name_byte mark out name (both (begins_with is_letter name && nat_le (length name) 32) (are_name_bytes name) h).1
