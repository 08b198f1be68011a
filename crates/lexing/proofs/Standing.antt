-- What stands at a place is what it is said to be.
use Rattle.std.proofs.Common.{◌≡◌, ℕ, zero, suc, ◌+◌, ◌-◌, ◌≤◌, ◌<◌, ◌⊎◌, inl, inr, List, [], ◌∷◌, ◌++◌, ◌||◌, length, take, drop, Bool, true, false, cond, refl, sym, ap, subst, ◌∙◌, arith}
use Rattle.std.proofs.lemmas.Bool.{ne_eqb, eqb-true, eqb-false, leb-true, leb-false, ltb-true, ltb-false, lt-leb}
use Rattle.std.proofs.lemmas.Bool.Decides.{Decides-eqb}
use Rattle.std.proofs.lemmas.List.{length-take-le, take-append-drop}
use Rattle.std.proofs.lemmas.List.Elements.{All-nil, All-cons, All-head, All-tail, All-contains, Contains-get_or, Contains-append_right}
use Rattle.std.proofs.lemmas.Slice.Eq.{starts_is}
use Rattle.std.specs.Prelude.{take_while, nat_eq, nat_lt, nat_le, codes, max, All, Contains}
use Rattle.std.specs.List.{starts_with, fold}
use Rattle.rec_bits.proofs.Booleans.{and_left, and_right}
use Rattle.lexing.specs.declared.token.Kind.{Kind}
use Rattle.lexing.specs.declared.token.Kind.TheVariants.{Name, Reserved, Number, Sign, Bad}
use Rattle.lexing.specs.declared.piece.Piece.{Piece}
use Rattle.lexing.specs.declared.piece.Piece.TheVariants.{Blank, Whole, Wrong}
use Rattle.lexing.specs.Bytes.{is_blank, is_digit, is_hex_digit, is_letter, is_name_byte, is_comment_byte, begins_with}
use Rattle.lexing.specs.Numbers.{is_hexadecimal, number_length, number_value}
use Rattle.lexing.specs.Table.{Lexicon, is_reserved, sign_length}
use Rattle.lexing.specs.Tokens.{name_piece, number_piece, sign_piece, piece}
use Rattle.lexing.specs.Laws.{IsSpacing, blank, comment, IsRun, IsWord, IsDecimal, IsHexadecimal, IsNumeral, IsSign, IsBad, IsKind}
use Rattle.lexing.proofs.Scans.{sign_le}
use Rattle.lexing.proofs.Runs.{run_at, run_own, run_unique, run_begins, run_some}

-- ---- the classes of a first byte

digit_no_letter : (b : ℕ) → is_digit b ≡ true → is_letter b ≡ false
digit_no_letter b digit =
    let high : b ≤ 57 = leb-true b 57 (and_right (nat_le 48 b) (nat_le b 57) digit) in
    let upper : nat_le 65 b ≡ false = lt-leb 65 b (omega arith) in
    let lower : nat_le 97 b ≡ false = lt-leb 97 b (omega arith) in
    let low_line : nat_eq b 95 ≡ false = other b 95 (omega arith) in
    rw (upper, lower, low_line) refl
  where
    other : (m n : ℕ) → m < n → nat_eq m n ≡ false
    other m n lt = ne_eqb m n (λ e. omega arith)

-- what is a sign's first byte begins neither a word nor a number
name_byte : (b : ℕ) → is_letter b ≡ true → is_name_byte b ≡ true
name_byte b letter = ap (λ t. t || is_digit b) letter

digit_byte : (b : ℕ) → is_letter b ≡ false → is_digit b ≡ true → is_name_byte b ≡ true
digit_byte b letter digit = ap (λ t. t || is_digit b) letter ∙ digit

-- `0x` comes first
marked_parts : (xs : List ℕ) → starts_with nat_eq xs (codes "0x") ≡ true → xs ≡ 48 ∷ 120 ∷ drop 2 xs
marked_parts xs marked = (starts_is Decides-eqb xs (codes "0x") (starts_with nat_eq xs (codes "0x")) refl).0 marked

marked_no_decimal : (n : ℕ) (rest : List ℕ) → IsDecimal n (48 ∷ 120 ∷ rest) → begins_with is_letter (drop n (48 ∷ 120 ∷ rest)) ≡ false → ⊥
marked_no_decimal zero rest decimal no_letter = omega (arith, decimal.some)
marked_no_decimal (suc zero) rest decimal no_letter = absurd cc
marked_no_decimal (suc (suc n)) rest decimal no_letter =
    let tail = All-tail (λ y. is_digit y ≡ true) 48 (120 ∷ take n rest) decimal.run.all in
    let h : is_digit 120 ≡ true = All-head (λ y. is_digit y ≡ true) 120 (take n rest) tail in absurd cc

number_digit : (n b : ℕ) (bs : List ℕ) → IsNumeral n (b ∷ bs) → is_digit b ≡ true
number_digit n b bs number = go number.digits
  where
    go : IsDecimal n (b ∷ bs) ⊎ IsHexadecimal n (b ∷ bs) → is_digit b ≡ true
    go (inl decimal) = run_begins is_digit n (b ∷ bs) decimal.some decimal.run
    go (inr hex) = subst (λ (xs : List ℕ). begins_with is_digit xs ≡ true) (sym (marked_parts (b ∷ bs) hex.marked)) refl

-- ---- numbers

digits_at : (xs : List ℕ) → begins_with is_digit xs ≡ true → IsDecimal (number_length xs) xs ⊎ IsHexadecimal (number_length xs) xs
digits_at xs digit = go (is_hexadecimal xs) refl
  where
    go : (t : Bool) → is_hexadecimal xs ≡ t → IsDecimal (cond t (2 + length (take_while is_hex_digit (drop 2 xs))) (length (take_while is_digit xs))) xs ⊎ IsHexadecimal (cond t (2 + length (take_while is_hex_digit (drop 2 xs))) (length (take_while is_digit xs))) xs
    go true e =
        let marked = and_left (starts_with nat_eq xs (codes "0x")) (begins_with is_hex_digit (drop 2 xs)) e in
        let first = and_right (starts_with nat_eq xs (codes "0x")) (begins_with is_hex_digit (drop 2 xs)) e in
        let k : length (take_while is_hex_digit (drop 2 xs)) ≡ 2 + length (take_while is_hex_digit (drop 2 xs)) - 2 = omega arith in
        inr (record { marked = marked; some = omega (arith, run_some is_hex_digit (drop 2 xs) first); run = subst (λ n. IsRun is_hex_digit n (drop 2 xs)) k (run_at is_hex_digit (drop 2 xs)) })
    go false e = inl (record { some = run_some is_digit xs digit; run = run_at is_digit xs })

number_length-unique : (n : ℕ) (xs : List ℕ) → IsNumeral n xs → n ≡ number_length xs
number_length-unique n xs number = go number.digits
  where
    hex_length : (t : Bool) → is_hexadecimal xs ≡ t → t ≡ true → number_length xs ≡ 2 + length (take_while is_hex_digit (drop 2 xs))
    hex_length t e h = ap (λ u. cond u (2 + length (take_while is_hex_digit (drop 2 xs))) (length (take_while is_digit xs))) (e ∙ h)

    decimal_length : (t : Bool) → is_hexadecimal xs ≡ t → IsDecimal n xs → n ≡ cond t (2 + length (take_while is_hex_digit (drop 2 xs))) (length (take_while is_digit xs))
    decimal_length true e decimal =
        let parts = marked_parts xs (and_left (starts_with nat_eq xs (codes "0x")) (begins_with is_hex_digit (drop 2 xs)) e) in
        absurd (marked_no_decimal n (drop 2 xs) (subst (λ (ys : List ℕ). IsDecimal n ys) parts decimal) (subst (λ (ys : List ℕ). begins_with is_letter (drop n ys) ≡ false) parts number.no_letter))
    decimal_length false e decimal = run_unique is_digit n xs decimal.run

    go : IsDecimal n xs ⊎ IsHexadecimal n xs → n ≡ number_length xs
    go (inl decimal) = decimal_length (is_hexadecimal xs) refl decimal
    go (inr hex) =
        let some : 1 ≤ n - 2 = omega (arith, hex.some) in
        let first : begins_with is_hex_digit (drop 2 xs) ≡ true = run_begins is_hex_digit (n - 2) (drop 2 xs) some hex.run in
        let t : is_hexadecimal xs ≡ true = rw (hex.marked, first) refl in
        omega (arith, hex.some, run_unique is_hex_digit (n - 2) (drop 2 xs) hex.run, hex_length (is_hexadecimal xs) refl t)

-- ---- signs

abbrev next_longest : List ℕ → ℕ → List ℕ → ℕ
next_longest bytes longest sign = cond (starts_with nat_eq bytes sign) (max longest (length sign)) longest

-- either the best before, or a sign that stands there, has the length that is found
FindsSign : List ℕ → List (List ℕ) → ℕ → ℕ → Type 0
FindsSign bytes signs best found = (found ≡ best) ⊎ ((sign : List ℕ) × Contains signs sign × (starts_with nat_eq bytes sign ≡ true) × (length sign ≡ found))

next_is : (bytes : List ℕ) (best : ℕ) (sign : List ℕ) → (next_longest bytes best sign ≡ best) ⊎ ((starts_with nat_eq bytes sign ≡ true) × (length sign ≡ next_longest bytes best sign))
next_is bytes best sign = go (starts_with nat_eq bytes sign) refl
  where
    greater : (t : Bool) → nat_le (length sign) best ≡ t → (max best (length sign) ≡ best) ⊎ (length sign ≡ max best (length sign))
    greater true e = let h : length sign ≤ best = leb-true (length sign) best e in inl (omega arith)
    greater false e = let h : best < length sign = leb-false (length sign) best e in inr (omega arith)

    both : starts_with nat_eq bytes sign ≡ true → (max best (length sign) ≡ best) ⊎ (length sign ≡ max best (length sign)) → (max best (length sign) ≡ best) ⊎ ((starts_with nat_eq bytes sign ≡ true) × (length sign ≡ max best (length sign)))
    both e (inl h) = inl h
    both e (inr h) = inr (e, h)

    go : (t : Bool) → starts_with nat_eq bytes sign ≡ t → (cond t (max best (length sign)) best ≡ best) ⊎ ((starts_with nat_eq bytes sign ≡ true) × (length sign ≡ cond t (max best (length sign)) best))
    go true e = both e (greater (nat_le (length sign) best) refl)
    go false e = inl refl

longest_found : (bytes : List ℕ) (signs : List (List ℕ)) (best : ℕ) → FindsSign bytes signs best (fold (next_longest bytes) best signs)
unfolding FindsSign
longest_found bytes [] best = inl refl
longest_found bytes (sign ∷ signs) best = step (next_longest bytes best sign) (fold (next_longest bytes) (next_longest bytes best sign) signs) (next_is bytes best sign) (longest_found bytes signs (next_longest bytes best sign))
  where
    step : (next found : ℕ) → (next ≡ best) ⊎ ((starts_with nat_eq bytes sign ≡ true) × (length sign ≡ next)) → (found ≡ next) ⊎ ((s : List ℕ) × Contains signs s × (starts_with nat_eq bytes s ≡ true) × (length s ≡ found)) → (found ≡ best) ⊎ ((s : List ℕ) × Contains (sign ∷ signs) s × (starts_with nat_eq bytes s ≡ true) × (length s ≡ found))
    step next found (inl e) (inl f) = inl (f ∙ e)
    step next found (inr h) (inl f) = inr (sign, Contains-get_or (sign ∷ signs) 0 sign (omega arith), h.0, h.1 ∙ sym f)
    step next found which (inr s) = inr (s.0, Contains-append_right (sign ∷ []) signs s.0 s.1, s.2, s.3)

-- no sign that stands there is longer
longest_over : (bytes : List ℕ) (signs : List (List ℕ)) (best : ℕ) → (best ≤ fold (next_longest bytes) best signs) × All (λ sign. starts_with nat_eq bytes sign ≡ true → length sign ≤ fold (next_longest bytes) best signs) signs
longest_over bytes [] best = (omega arith, All-nil (λ sign. starts_with nat_eq bytes sign ≡ true → length sign ≤ best))
longest_over bytes (sign ∷ signs) best =
    let next = next_longest bytes best sign in
    let found = fold (next_longest bytes) next signs in
    let rest = longest_over bytes signs next in
    let grows = next_grows (starts_with nat_eq bytes sign) refl in
    (omega (arith, grows.0, rest.0), All-cons (λ s. starts_with nat_eq bytes s ≡ true → length s ≤ found) sign signs (λ e. omega (arith, grows.1 e, rest.0)) rest.1)
  where
    next_grows : (t : Bool) → starts_with nat_eq bytes sign ≡ t → (best ≤ cond t (max best (length sign)) best) × (starts_with nat_eq bytes sign ≡ true → length sign ≤ cond t (max best (length sign)) best)
    next_grows true e = (omega arith, λ h. omega arith)
    next_grows false e = (omega arith, λ h. absurd cc)

sign_parts : (bytes sign : List ℕ) → starts_with nat_eq bytes sign ≡ true → bytes ≡ sign ++ drop (length sign) bytes
sign_parts bytes sign stands = (starts_is Decides-eqb bytes sign (starts_with nat_eq bytes sign) refl).0 stands

front_own : (sign rest : List ℕ) → take (length sign) (sign ++ rest) ≡ sign
front_own [] rest = refl
front_own (b ∷ bs) rest = ap (λ ys. b ∷ ys) (front_own bs rest)

sign_own : (bytes sign : List ℕ) → starts_with nat_eq bytes sign ≡ true → take (length sign) bytes ≡ sign
sign_own bytes sign stands = ap (λ ys. take (length sign) ys) (sign_parts bytes sign stands) ∙ front_own sign (drop (length sign) bytes)

take_stands : (n : ℕ) (bytes : List ℕ) → starts_with nat_eq bytes (take n bytes) ≡ true
take_stands n bytes = (starts_is Decides-eqb bytes (take n bytes) (starts_with nat_eq bytes (take n bytes)) refl).1 (drop n bytes) (sym (take-append-drop n bytes))

sign_at : (table : Lexicon) (bytes : List ℕ) → begins_with is_name_byte bytes ≡ false → 1 ≤ sign_length table bytes → IsSign table (sign_length table bytes) bytes
unfolding FindsSign
sign_at table bytes begins some = record {
  begins = begins;
  some = some;
  within = sign_le table bytes;
  listed = go (longest_found bytes table.signs 0);
  longest = (longest_over bytes table.signs 0).1;
}
  where
    go : FindsSign bytes table.signs 0 (sign_length table bytes) → Contains table.signs (take (sign_length table bytes) bytes)
    go (inl none) = absurd (omega arith)
    go (inr s) = subst (λ (xs : List ℕ). Contains table.signs xs) (sym (sign_own bytes s.0 s.2) ∙ ap (λ n. take n bytes) s.3) s.1

sign-le_longest : (table : Lexicon) (n : ℕ) (bytes : List ℕ) → IsSign table n bytes → n ≤ sign_length table bytes
sign-le_longest table n bytes sign =
    let h : length (take n bytes) ≤ sign_length table bytes = All-contains (λ s. starts_with nat_eq bytes s ≡ true → length s ≤ sign_length table bytes) table.signs (take n bytes) (longest_over bytes table.signs 0).1 sign.listed (take_stands n bytes) in
    omega (arith, length-take-le n bytes sign.within, h)

-- ---- a piece is what it is said to be

IsRight : Lexicon → List ℕ → Piece → Type 0
IsRight table xs (Blank n) = (m : ℕ) → IsSpacing m (drop n xs) → IsSpacing (n + m) xs
IsRight table xs (Whole kind n) = IsKind table kind n xs × (kind ≡ Bad → ⊥)
IsRight table xs Wrong = IsBad table xs

right_if : (table : Lexicon) (xs : List ℕ) (t : Bool) (x y : Piece) → (t ≡ true → IsRight table xs x) → (t ≡ false → IsRight table xs y) → IsRight table xs (cond t x y)
right_if table xs true x y f g = f refl
right_if table xs false x y f g = g refl

true_or_false : {P : Type 0} {t : Bool} → t ≡ true → t ≡ false → P
true_or_false e f = absurd cc

module _ (table : Lexicon) (b : ℕ) (bs : List ℕ) (no_blank : is_blank b ≡ false) (no_comment : starts_with nat_eq (b ∷ bs) (codes "//") ≡ false) where
  word_right : is_letter b ≡ true → IsRight table (b ∷ bs) (name_piece table (take_while is_name_byte (b ∷ bs)))
  unfolding IsRight
  word_right letter =
      let xs = b ∷ bs in
      let name = take_while is_name_byte xs in
      let n = length name in
      right_if table xs (nat_le n 32) (cond (is_reserved table name) (Whole Reserved n) (Whole Name n)) Wrong
      (λ short.
      let word : IsWord n xs = record { begins = letter; run = run_at is_name_byte xs; short = leb-true n 32 short } in
      let own : is_reserved table (take n xs) ≡ is_reserved table name = ap (λ ys. is_reserved table ys) (run_own is_name_byte xs) in
      right_if table xs (is_reserved table name) (Whole Reserved n) (Whole Name n) (λ e. ((word, own ∙ e), λ bad. cc)) (λ e. ((word, own ∙ e), λ bad. cc)))
      (λ long. record {
        no_blank = no_blank;
        no_comment = no_comment;
        no_word = λ m word. let h : 32 < n = leb-false n 32 long in omega (arith, run_unique is_name_byte m xs word.run, word.short);
        no_number = λ m number. true_or_false letter (digit_no_letter b (number_digit m b bs number));
        no_sign = λ m sign. true_or_false (name_byte b letter) sign.begins;
      })

  number_right : is_letter b ≡ false → is_digit b ≡ true → IsRight table (b ∷ bs) (number_piece (b ∷ bs))
  unfolding IsRight
  number_right no_letter digit =
      let xs = b ∷ bs in
      let n = number_length xs in
      let bad : ((m : ℕ) → IsNumeral m xs → ⊥) → IsBad table xs = λ none. record {
        no_blank = no_blank;
        no_comment = no_comment;
        no_word = λ m word. true_or_false word.begins no_letter;
        no_number = none;
        no_sign = λ m sign. true_or_false (digit_byte b no_letter digit) sign.begins;
      } in
      right_if table xs (begins_with is_letter (drop n xs)) Wrong (cond (nat_lt (number_value (take n xs)) 18446744073709551616) (Whole Number n) Wrong)
      (λ follows. bad (λ m number. true_or_false (ap (λ k. begins_with is_letter (drop k xs)) (number_length-unique m xs number) ∙ follows) number.no_letter))
      (λ ends. right_if table xs (nat_lt (number_value (take n xs)) 18446744073709551616) (Whole Number n) Wrong
      (λ small. (record { digits = digits_at xs digit; no_letter = ends; small = ltb-true (number_value (take n xs)) 18446744073709551616 small }, λ bad. cc))
      (λ great. bad (λ m number.
      let h : 18446744073709551616 ≤ number_value (take n xs) = ltb-false (number_value (take n xs)) 18446744073709551616 great in
      let same : number_value (take m xs) ≡ number_value (take n xs) = ap (λ k. number_value (take k xs)) (number_length-unique m xs number) in
      omega (arith, number.small, same))))

  sign_right : is_letter b ≡ false → is_digit b ≡ false → IsRight table (b ∷ bs) (sign_piece table (b ∷ bs))
  unfolding IsRight
  sign_right no_letter no_digit =
      let xs = b ∷ bs in
      let n = sign_length table xs in
      right_if table xs (nat_eq n 0) Wrong (Whole Sign n)
      (λ none. record {
        no_blank = no_blank;
        no_comment = no_comment;
        no_word = λ m word. true_or_false word.begins no_letter;
        no_number = λ m number. true_or_false (number_digit m b bs number) no_digit;
        no_sign = λ m sign. omega (arith, eqb-true n 0 none, sign-le_longest table m xs sign, sign.some);
      })
      (λ found. let z : n ≡ 0 → ⊥ = eqb-false n 0 found in (sign_at table xs (ap (λ t. t || is_digit b) no_letter ∙ no_digit) (positive n z), λ bad. cc))
    where
      positive : (n : ℕ) → (n ≡ 0 → ⊥) → 1 ≤ n
      positive n z = omega arith

piece_right : (table : Lexicon) (b : ℕ) (bs : List ℕ) → IsRight table (b ∷ bs) (piece table (b ∷ bs))
unfolding piece IsRight
piece_right table b bs =
    let xs = b ∷ bs in
    right_if table xs (is_blank b) (Blank 1) _ (λ e m rest. blank m b bs e rest) (λ no_blank.
    right_if table xs (starts_with nat_eq xs (codes "//")) (Blank (length (take_while is_comment_byte xs))) _ (λ e m rest. comment (length (take_while is_comment_byte xs)) m xs e (run_at is_comment_byte xs) rest) (λ no_comment.
    right_if table xs (is_letter b) _ _ (λ letter. word_right table b bs no_blank no_comment letter) (λ no_letter.
    right_if table xs (is_digit b) _ _ (λ digit. number_right table b bs no_blank no_comment no_letter digit) (λ no_digit. sign_right table b bs no_blank no_comment no_letter no_digit))))

pub whole_is : (table : Lexicon) (kind : Kind) (n b : ℕ) (bs : List ℕ) → piece table (b ∷ bs) ≡ Whole kind n → IsKind table kind n (b ∷ bs) × (kind ≡ Bad → ⊥)
unfolding IsRight
whole_is table kind n b bs e = subst (λ (p : Piece). IsRight table (b ∷ bs) p) e (piece_right table b bs)

pub blank_is : (table : Lexicon) (n b : ℕ) (bs : List ℕ) → piece table (b ∷ bs) ≡ Blank n → (m : ℕ) → IsSpacing m (drop n (b ∷ bs)) → IsSpacing (n + m) (b ∷ bs)
unfolding IsRight
blank_is table n b bs e = subst (λ (p : Piece). IsRight table (b ∷ bs) p) e (piece_right table b bs)

pub wrong_is : (table : Lexicon) (b : ℕ) (bs : List ℕ) → piece table (b ∷ bs) ≡ Wrong → IsBad table (b ∷ bs)
unfolding IsRight
wrong_is table b bs e = subst (λ (p : Piece). IsRight table (b ∷ bs) p) e (piece_right table b bs)
