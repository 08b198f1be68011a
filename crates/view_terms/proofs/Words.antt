-- Words at the front of a text, and what follows them.
use Rattle.std.proofs.Common.{◌≡◌, ◌==◌, ◌&&◌, ◌||◌, ℕ, ◌<◌, ◌≤◌, ◌^◌, List, [], ◌∷◌, ◌++◌, length, drop, Bool, true, false, cond, Option, None, Some, refl, ap, ◌∙◌, arith, eqb-true, eq-eqb}
use Rattle.std.proofs.lemmas.Bool.{leb-true, lt-leb, ne_eqb}
use Rattle.std.proofs.lemmas.List.{take-append-drop}
use Rattle.std.proofs.lemmas.List.Folds.{length-prefix_len}
use Rattle.std.proofs.lemmas.List.Sums.{take_while-cons}
use Rattle.std.proofs.lemmas.Option.{cond_some}
use Rattle.std.proofs.Math.Seq.{drop-append_seam}
use Rattle.std.specs.Fmt.{decimal}
use Rattle.std.specs.Prelude.{nat_le, take_while}
use Rattle.std.specs.List.{list_all, prefix_len}
use Rattle.rec_bits.proofs.Booleans.{both}
use Rattle.lexing.specs.Bytes.{is_digit, is_letter, is_name_byte, begins_with}
use Rattle.text_lines.specs.Fields.{number_of, is_canonical, are_digits, is_name, are_name_bytes}
use Rattle.text_lines.proofs.Numbers.{number_again}
use Rattle.view_terms.specs.Inner.Reading.{behind, behind_word, when, word_in}

-- ---- a word and what stands behind it

pub split : (text : List ℕ) → word_in text ++ behind_word text ≡ text
split text =
    ap (λ n. word_in text ++ drop n text) (length-prefix_len is_name_byte text) ∙ take-append-drop (prefix_len is_name_byte text) text

-- no byte of a name or a number, no parenthesis that opens, and no `#` comes first
abbrev pub Ends : List ℕ → Type 0
Ends [] = Unit {0}
Ends (b ∷ bs) = (is_name_byte b ≡ false) × ((b == 40) ≡ false) × ((b == 35) ≡ false)

-- no byte of a name or a number comes first
abbrev pub Breaks : List ℕ → Type 0
Breaks [] = Unit {0}
Breaks (b ∷ bs) = is_name_byte b ≡ false

pub ends_break : (rest : List ℕ) → Ends rest → Breaks rest
ends_break [] h = tt
ends_break (b ∷ bs) h = h.0

pub word_again : (word rest : List ℕ) → are_name_bytes word ≡ true → Breaks rest → word_in (word ++ rest) ≡ word
word_again [] [] w h = refl
word_again [] (b ∷ bs) w h = take_while-cons is_name_byte b bs ∙ ap (λ t. cond t (b ∷ take_while is_name_byte bs) []) h
word_again (c ∷ cs) rest w h =
    let p = both (is_name_byte c) (list_all is_name_byte cs) w in
    take_while-cons is_name_byte c (cs ++ rest) ∙ ap (λ t. cond t (c ∷ take_while is_name_byte (cs ++ rest)) []) p.0
    ∙ ap (λ r. c ∷ r) (word_again cs rest p.1 h)

pub rest_again : (word rest : List ℕ) → are_name_bytes word ≡ true → Breaks rest → behind_word (word ++ rest) ≡ rest
rest_again word rest w h = ap (λ x. drop (length x) (word ++ rest)) (word_again word rest w h) ∙ drop-append_seam word rest

-- ---- names and numbers are words

pub name_bytes : (name : List ℕ) → is_name name ≡ true → are_name_bytes name ≡ true
unfolding is_name
name_bytes name h = (both (begins_with is_letter name && nat_le (length name) 32) (are_name_bytes name) h).1

digits_of_number : (t : Bool) (text : List ℕ) (o : Option ℕ) (n : ℕ) → (is_canonical text && are_digits text) ≡ t → cond t o None ≡ Some n → (is_canonical text && are_digits text) ≡ true
digits_of_number true text o n q e = q
digits_of_number false text o n q e = absurd cc

pub decimal_digits : (n : ℕ) → n < 2 ^ 64 → (is_canonical (decimal n) ≡ true) × (are_digits (decimal n) ≡ true)
unfolding number_of
decimal_digits n h =
    both (is_canonical (decimal n)) (are_digits (decimal n))
    (digits_of_number (is_canonical (decimal n) && are_digits (decimal n)) (decimal n) _ n refl (number_again n h))

name_digits : (ds : List ℕ) → are_digits ds ≡ true → are_name_bytes ds ≡ true
name_digits [] h = refl
name_digits (d ∷ ds) h =
    let p = both (is_digit d) (list_all is_digit ds) h in
    rw (step (is_letter d) (is_digit d) p.0, name_digits ds p.1) refl
  where
    step : (a b : Bool) → b ≡ true → (a || b) ≡ true
    step true b e = refl
    step false b e = e

pub decimal_bytes : (n : ℕ) → n < 2 ^ 64 → are_name_bytes (decimal n) ≡ true
decimal_bytes n h = name_digits (decimal n) (decimal_digits n h).1

digit_is_no_letter : (d : ℕ) → is_digit d ≡ true → is_letter d ≡ false
digit_is_no_letter d e =
    let q = both (nat_le 48 d) (nat_le d 57) e in
    let low : d ≤ 57 = leb-true d 57 q.1 in
    rw (lt-leb 65 d (omega arith), lt-leb 97 d (omega arith), ne_eqb d 95 (λ s. omega arith)) refl

not_first : (ds : List ℕ) → are_digits ds ≡ true → begins_with is_letter ds ≡ false
not_first [] h = refl
not_first (d ∷ ds) h = digit_is_no_letter d (both (is_digit d) (list_all is_digit ds) h).0

-- a number is no name
pub decimal_is_no_name : (n : ℕ) → n < 2 ^ 64 → is_name (decimal n) ≡ false
unfolding is_name
decimal_is_no_name n h = ap (λ t. t && nat_le (length (decimal n)) 32 && are_name_bytes (decimal n)) (not_first (decimal n) (decimal_digits n h).1)

-- ---- one byte

pub behind_is : (mark : ℕ) (text rest : List ℕ) → behind mark text ≡ Some rest → text ≡ mark ∷ rest
behind_is mark [] rest e = absurd cc
behind_is mark (b ∷ bs) rest e =
    let p = cond_some (b == mark) bs rest e in
    ap (λ x. x ∷ bs) (eqb-true b mark p.0) ∙ ap (λ r. mark ∷ r) p.1

pub behind_again : (mark : ℕ) (rest : List ℕ) → behind mark (mark ∷ rest) ≡ Some rest
behind_again mark rest = ap (λ t. cond t (Some rest) None) (eq-eqb mark mark refl)

pub not_opened : (rest : List ℕ) → Ends rest → behind 40 rest ≡ None
not_opened [] h = refl
not_opened (b ∷ bs) h = ap (λ t. cond t (Some bs) None) h.1

pub not_wide : (rest : List ℕ) → Ends rest → behind 35 rest ≡ None
not_wide [] h = refl
not_wide (b ∷ bs) h = ap (λ t. cond t (Some bs) None) h.2

-- ---- the first of two readings

pub when_is : {A B : Type 0} (o : Option A) (f : A → Option B) (other : Option B) (y : B) (P : Type 0) → when o f other ≡ Some y →
    ((x : A) → o ≡ Some x → f x ≡ Some y → P) → (o ≡ None → other ≡ Some y → P) → P
when_is None f other y P e g h = h refl e
when_is (Some x) f other y P e g h = g x refl e

pub when_again : {A B : Type 0} (o : Option A) (f : A → Option B) (other : Option B) (x : A) (y : Option B) → o ≡ Some x → f x ≡ y → when o f other ≡ y
when_again o f other x y e g = rw e g

pub when_other : {A B : Type 0} (o : Option A) (f : A → Option B) (other y : Option B) → o ≡ None → other ≡ y → when o f other ≡ y
when_other o f other y e g = rw e g
