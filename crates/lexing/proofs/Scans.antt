-- Going over a text.
use Rattle.std.proofs.Common.{◌≡◌, ◌||◌, not, ℕ, zero, suc, ◌+◌, ◌-◌, ◌≤◌, ◌<◌, List, [], ◌∷◌, ◌++◌, length, take, drop, Bool, true, false, cond, refl, sym, ap, subst, ◌∙◌, append_assoc, arith}
use Rattle.std.proofs.lemmas.List.{append-nil, nil_from_length, drop-drop, length-take, length-drop, take_rest}
use Rattle.std.proofs.lemmas.Bool.{eqb-false}
use Rattle.std.specs.Prelude.{take_while, nat_eq, codes, nat_lt, nat_le, max}
use Rattle.std.specs.List.{starts_with, prefix_len, fold}
use Rattle.std.specs.Cmp.Lexicographic.{pointwise}
use Rattle.rec_bits.proofs.Booleans.{or_left, right_false, and_left, and_right}
use Rattle.lexing.specs.declared.token.Token.{Token}
use Rattle.lexing.specs.declared.token.Kind.{Kind}
use Rattle.lexing.specs.declared.token.Kind.TheVariants.{Name, Reserved, Number, Sign, Bad}
use Rattle.lexing.specs.declared.piece.Piece.{Piece}
use Rattle.lexing.specs.declared.piece.Piece.TheVariants.{Blank, Whole, Wrong}
use Rattle.lexing.specs.Bytes.{is_blank, is_digit, is_hex_digit, is_letter, is_name_byte, is_comment_byte, begins_with}
use Rattle.lexing.specs.Numbers.{is_hexadecimal, number_length, number_value}
use Rattle.lexing.specs.Table.{Lexicon, is_reserved, sign_length}
use Rattle.lexing.specs.Tokens.{name_piece, number_piece, sign_piece, piece, a_token, tokens_from}

-- ---- a piece lies within the text

abbrev pub IsWithin : ℕ → Piece → Type 0
IsWithin end (Blank n) = (1 ≤ n) × (n ≤ end)
IsWithin end (Whole kind n) = (1 ≤ n) × (n ≤ end)
IsWithin end Wrong = Unit {0}

within_if : (end : ℕ) (t : Bool) (x y : Piece) → (t ≡ true → IsWithin end x) → (t ≡ false → IsWithin end y) → IsWithin end (cond t x y)
within_if end true x y f g = f refl
within_if end false x y f g = g refl

run_le : (p : ℕ → Bool) (xs : List ℕ) → length (take_while p xs) ≤ length xs
run_le p xs = omega (arith, length-take (prefix_len p xs) xs)

run_some : (p : ℕ → Bool) (b : ℕ) (bs : List ℕ) → p b ≡ true → 1 ≤ length (take_while p (b ∷ bs))
run_some p b bs h =
    let q : prefix_len p (b ∷ bs) ≡ 1 + prefix_len p bs = rw h refl in
    omega (arith, length-take (prefix_len p (b ∷ bs)) (b ∷ bs), q)

starts_long : (needle xs : List ℕ) → starts_with nat_eq xs needle ≡ true → length needle ≤ length xs
starts_long needle xs e = go needle xs e
  where
    go : (needle xs : List ℕ) → pointwise nat_eq needle (take (length needle) xs) ≡ true → length needle ≤ length xs
    go [] xs e = omega arith
    go (n ∷ ns) [] e = absurd cc
    go (n ∷ ns) (x ∷ xs) e = omega (arith, go ns xs (and_right (nat_eq n x) (pointwise nat_eq ns (take (length ns) xs)) e))

name_within : (table : Lexicon) (end : ℕ) (name : List ℕ) → 1 ≤ length name → length name ≤ end → IsWithin end (name_piece table name)
name_within table end name a b = within_if end (nat_le (length name) 32) (cond (is_reserved table name) (Whole Reserved (length name)) (Whole Name (length name))) Wrong
    (λ e. within_if end (is_reserved table name) (Whole Reserved (length name)) (Whole Name (length name)) (λ e. (a, b)) (λ e. (a, b))) (λ e. tt)

cond_bounds : (end : ℕ) (t : Bool) (m n : ℕ) → (t ≡ true → (1 ≤ m) × (m ≤ end)) → (t ≡ false → (1 ≤ n) × (n ≤ end)) → (1 ≤ cond t m n) × (cond t m n ≤ end)
cond_bounds end true m n f g = f refl
cond_bounds end false m n f g = g refl

number_length-bounds : (b : ℕ) (bs : List ℕ) → is_digit b ≡ true → (1 ≤ number_length (b ∷ bs)) × (number_length (b ∷ bs) ≤ length (b ∷ bs))
number_length-bounds b bs digit =
    let xs = b ∷ bs in
    cond_bounds (length xs) (is_hexadecimal xs) (2 + length (take_while is_hex_digit (drop 2 xs))) (length (take_while is_digit xs))
    (λ e. let s : 2 ≤ length xs = starts_long (codes "0x") xs (and_left (starts_with nat_eq xs (codes "0x")) (begins_with is_hex_digit (drop 2 xs)) e) in
    (omega arith, omega (arith, run_le is_hex_digit (drop 2 xs), length-drop 2 xs)))
    (λ e. (run_some is_digit b bs digit, run_le is_digit xs))

number_within : (end : ℕ) (bytes : List ℕ) → 1 ≤ number_length bytes → number_length bytes ≤ end → IsWithin end (number_piece bytes)
number_within end bytes a b =
    let n = number_length bytes in
    within_if end (begins_with is_letter (drop n bytes)) Wrong (cond (nat_lt (number_value (take n bytes)) 18446744073709551616) (Whole Number n) Wrong) (λ e. tt)
    (λ e. within_if end (nat_lt (number_value (take n bytes)) 18446744073709551616) (Whole Number n) Wrong (λ e. (a, b)) (λ e. tt))

-- no sign is longer than the text
longest_le : (bytes : List ℕ) (signs : List (List ℕ)) (best : ℕ) → best ≤ length bytes → fold (λ longest sign. cond (starts_with nat_eq bytes sign) (max longest (length sign)) longest) best signs ≤ length bytes
longest_le bytes [] best h = h
longest_le bytes (sign ∷ signs) best h =
    longest_le bytes signs (cond (starts_with nat_eq bytes sign) (max best (length sign)) best) (le_if (length bytes) (starts_with nat_eq bytes sign) (max best (length sign)) best (λ e. let l : length sign ≤ length bytes = starts_long sign bytes e in omega arith) h)
  where
    le_if : (n : ℕ) (t : Bool) (x y : ℕ) → (t ≡ true → x ≤ n) → y ≤ n → cond t x y ≤ n
    le_if n true x y f g = f refl
    le_if n false x y f g = g

pub sign_le : (table : Lexicon) (bytes : List ℕ) → sign_length table bytes ≤ length bytes
sign_le table bytes = longest_le bytes table.signs 0 (omega arith)

sign_within : (table : Lexicon) (bytes : List ℕ) → IsWithin (length bytes) (sign_piece table bytes)
sign_within table bytes = within_if (length bytes) (nat_eq (sign_length table bytes) 0) Wrong (Whole Sign (sign_length table bytes)) (λ e. tt)
    (λ e. let z : sign_length table bytes ≡ 0 → ⊥ = eqb-false (sign_length table bytes) 0 e in (positive (sign_length table bytes) z, sign_le table bytes))
  where
    positive : (n : ℕ) → (n ≡ 0 → ⊥) → 1 ≤ n
    positive n z = omega arith

pub piece_within : (table : Lexicon) (b : ℕ) (bs : List ℕ) → IsWithin (length (b ∷ bs)) (piece table (b ∷ bs))
unfolding piece
piece_within table b bs =
    let xs = b ∷ bs in
    let end = length xs in
    within_if end (is_blank b) (Blank 1) _ (λ e. (omega arith, omega arith)) (λ e.
    let in_comment : is_comment_byte b ≡ true = ap not (right_false (nat_eq b 32 || nat_eq b 9 || nat_eq b 13) (nat_eq b 10) e) in
    within_if end (starts_with nat_eq xs (codes "//")) (Blank (length (take_while is_comment_byte xs))) _ (λ s. (run_some is_comment_byte b bs in_comment, run_le is_comment_byte xs)) (λ s.
    within_if end (is_letter b) _ _ (λ l. name_within table end (take_while is_name_byte xs) (run_some is_name_byte b bs (or_left (is_letter b) (is_digit b) l)) (run_le is_name_byte xs)) (λ l.
    within_if end (is_digit b) _ _ (λ d. let bounds = number_length-bounds b bs d in number_within end xs bounds.0 bounds.1) (λ d. sign_within table xs))))

-- ---- from a place on

skipped : (table : Lexicon) (k at : ℕ) (bs : List ℕ) → tokens_from table at k bs ≡ tokens_from table (at + k) 0 (drop k bs)
unfolding tokens_from
skipped table zero at bs = let e : at ≡ at + 0 = omega arith in ap (λ n. tokens_from table n 0 bs) e
skipped table (suc k) at [] = refl
skipped table (suc k) at (b ∷ bs) = let e : at + 1 + k ≡ at + suc k = omega arith in skipped table k (at + 1) bs ∙ ap (λ n. tokens_from table n 0 (drop k bs)) e

after : (table : Lexicon) (at n b : ℕ) (bs : List ℕ) → 1 ≤ n → tokens_from table (at + 1) (n - 1) bs ≡ tokens_from table (at + n) 0 (drop n (b ∷ bs))
after table at n b bs h =
    let k : n ≡ suc (n - 1) = omega arith in
    let e : at + 1 + (n - 1) ≡ at + n = omega arith in
    skipped table (n - 1) (at + 1) bs ∙ ap (λ m. tokens_from table m 0 (drop (n - 1) bs)) e ∙ ap (λ m. tokens_from table (at + n) 0 (drop m (b ∷ bs))) (sym k)

-- The bytes xs from the place `at` on, and what stands there.
from_blank : (table : Lexicon) (at n : ℕ) (xs : List ℕ) → 0 < length xs → piece table xs ≡ Blank n → (1 ≤ n) × (n ≤ length xs) × (tokens_from table at 0 xs ≡ tokens_from table (at + n) 0 (drop n xs))
unfolding tokens_from
from_blank table at n [] some e = absurd (omega arith)
from_blank table at n (b ∷ bs) some e =
    let w : (1 ≤ n) × (n ≤ length (b ∷ bs)) = subst (λ (q : Piece). IsWithin (length (b ∷ bs)) q) e (piece_within table b bs) in
    (w.0, w.1, rw (e, tokens_from) (after table at n b bs w.0))

from_whole : (table : Lexicon) (at n : ℕ) (kind : Kind) (xs : List ℕ) → 0 < length xs → piece table xs ≡ Whole kind n → (1 ≤ n) × (n ≤ length xs) × (tokens_from table at 0 xs ≡ a_token kind at n ∷ tokens_from table (at + n) 0 (drop n xs))
unfolding tokens_from
from_whole table at n kind [] some e = absurd (omega arith)
from_whole table at n kind (b ∷ bs) some e =
    let w : (1 ≤ n) × (n ≤ length (b ∷ bs)) = subst (λ (q : Piece). IsWithin (length (b ∷ bs)) q) e (piece_within table b bs) in
    (w.0, w.1, rw (e, tokens_from) (ap (λ ts. a_token kind at n ∷ ts) (after table at n b bs w.0)))

from_wrong : (table : Lexicon) (at : ℕ) (xs : List ℕ) → 0 < length xs → piece table xs ≡ Wrong → tokens_from table at 0 xs ≡ a_token Bad at 1 ∷ []
unfolding tokens_from
from_wrong table at [] some e = absurd (omega arith)
from_wrong table at (b ∷ bs) some e = rw (e, tokens_from) refl

from_end : (table : Lexicon) (at : ℕ) (xs : List ℕ) → xs ≡ [] → tokens_from table at 0 xs ≡ []
unfolding tokens_from
from_end table at xs e = ap (λ ys. tokens_from table at 0 ys) e

-- a place of a text, and the tokens before it
module _ (table : Lexicon) (bytes : List ℕ) (at : ℕ) (found all : List Token) (there : at < length bytes) (so_far : found ++ tokens_from table at 0 (drop at bytes) ≡ all) where
  some : 0 < length (drop at bytes)
  some = omega (arith, length-drop at bytes)

  stands_here : (q : Piece) → q ≡ piece table (take (length bytes - at) (drop at bytes)) → piece table (drop at bytes) ≡ q
  stands_here q stands = ap (λ xs. piece table xs) (sym (take_rest bytes at)) ∙ sym stands

  module _ (n : ℕ) (stands : Blank n ≡ piece table (take (length bytes - at) (drop at bytes))) where
    pub blank_within : (1 ≤ n) × (at + n ≤ length bytes)
    blank_within =
        let f = from_blank table at n (drop at bytes) some (stands_here (Blank n) stands) in
        (f.0, omega (arith, f.1, length-drop at bytes))

    pub blank_passed : found ++ tokens_from table (at + n) 0 (drop (at + n) bytes) ≡ all
    blank_passed =
        let f = from_blank table at n (drop at bytes) some (stands_here (Blank n) stands) in
        sym (ap (λ ts. found ++ ts) (f.2 ∙ ap (λ xs. tokens_from table (at + n) 0 xs) (drop-drop n at bytes))) ∙ so_far

  module _ (kind : Kind) (n : ℕ) (stands : Whole kind n ≡ piece table (take (length bytes - at) (drop at bytes))) where
    pub token_within : (1 ≤ n) × (at + n ≤ length bytes)
    token_within =
        let f = from_whole table at n kind (drop at bytes) some (stands_here (Whole kind n) stands) in
        (f.0, omega (arith, f.1, length-drop at bytes))

    pub token_passed : (found ++ a_token kind at n ∷ []) ++ tokens_from table (at + n) 0 (drop (at + n) bytes) ≡ all
    token_passed =
        let f = from_whole table at n kind (drop at bytes) some (stands_here (Whole kind n) stands) in
        append_assoc found (a_token kind at n ∷ []) (tokens_from table (at + n) 0 (drop (at + n) bytes))
        ∙ sym (ap (λ ts. found ++ ts) (f.2 ∙ ap (λ xs. a_token kind at n ∷ tokens_from table (at + n) 0 xs) (drop-drop n at bytes))) ∙ so_far

  pub wrong_ends : Wrong ≡ piece table (take (length bytes - at) (drop at bytes)) → found ++ a_token Bad at 1 ∷ [] ≡ all
  wrong_ends stands = sym (ap (λ ts. found ++ ts) (from_wrong table at (drop at bytes) some (stands_here Wrong stands))) ∙ so_far

-- behind the last byte
pub all_read : (table : Lexicon) (bytes : List ℕ) (at : ℕ) (found all : List Token) → length bytes ≤ at → found ++ tokens_from table at 0 (drop at bytes) ≡ all → found ≡ all
all_read table bytes at found all end so_far =
    sym (append-nil found) ∙ sym (ap (λ ts. found ++ ts) (from_end table at (drop at bytes) (nil_from_length (drop at bytes) (omega (arith, length-drop at bytes))))) ∙ so_far
