-- What operators on bits do with the numbers of the bits.
use Rattle.std.proofs.Common.{◌≡◌, ℕ, ◌+◌, ◌-◌, ◌*◌, ◌/◌, ◌%◌, ◌^◌, ◌<◌, ◌≤◌, ◌==◌, ◌&&◌, inl, inr, nat_le, not, cond, Bool, true, false, List, [], ◌∷◌, ◌++◌, map, length, take, drop, replicate, get_or, refl, sym, ap, ◌∙◌, add-one, add_comm, arith, zero, suc, bit_and, bit_or, bit_xor}
use Rattle.std.specs.Int.{bit_at}
use Rattle.std.proofs.Math.Nat.{pow-suc}
use Rattle.std.proofs.lemmas.Bool.{cases_eq, eq-eqb, ne_eqb}
use Rattle.std.proofs.lemmas.Bool.Decides.{nat_tests}
use Rattle.std.proofs.lemmas.Nat.{mod-pow-add, shr-shr, and_block, or_block, xor_block}
use Rattle.std.proofs.lemmas.Nat.Bits.{bit_at-suc, bit_at_lowest, bit_at-lt, bit_at-zero}
use Rattle.rec_bits.specs.Operators.{bit_of, cat_of, is_negative_of}
use Rattle.bit_bdd.specs.Diagrams.{Diagrams, has_word}
use Rattle.ctl_bdd.specs.Bits.{bools, bits_value, number_at}
use Rattle.ctl_bdd.specs.Inner.Bits.{pair_of, pairs_of, choice_of, alike, all_alike}
use Rattle.ctl_bdd.specs.declared.bits.Pairing.TheVariants.{And, Or, Xor}
use Rattle.ctl_bdd.proofs.Bools.{number_push}
use Rattle.ctl_bdd.proofs.Sets.{bools_push, bools_long}

pub bit_small : (b : Bool) → bit_of b ≤ 1
bit_small true = omega arith
bit_small false = omega arith

pub number_below : (bs : List Bool) → bits_value bs < 2 ^ length bs
number_below [] = omega arith
number_below (b ∷ bs) = omega (arith, number_below bs, pow-suc 2 (length bs), bit_small b)

-- ---- bit by bit

and_bit : (a b : Bool) → bit_of (a && b) ≡ bit_and (bit_of a) (bit_of b)
and_bit true true = refl
and_bit true false = refl
and_bit false true = refl
and_bit false false = refl

or_bit : (a b : Bool) → bit_of (pair_of Or a b) ≡ bit_or (bit_of a) (bit_of b)
or_bit true true = refl
or_bit true false = refl
or_bit false true = refl
or_bit false false = refl

xor_bit : (a b : Bool) → bit_of (pair_of Xor a b) ≡ bit_xor (bit_of a) (bit_of b)
xor_bit true true = refl
xor_bit true false = refl
xor_bit false true = refl
xor_bit false false = refl

bit_lt : (b : Bool) → bit_of b < 2 ^ 1
bit_lt b = omega (arith, bit_small b)

pub number_and : (xs ys : List Bool) → length xs ≡ length ys → bits_value (pairs_of And xs ys) ≡ bit_and (bits_value xs) (bits_value ys)
number_and [] [] e = refl
number_and [] (y ∷ ys) e = absurd (omega (arith, e))
number_and (x ∷ xs) [] e = absurd (omega (arith, e))
number_and (x ∷ xs) (y ∷ ys) e =
    (λ j. number_and xs ys (omega (arith, e)) j * 2 + and_bit x y j)
    ∙ sym (and_block 1 (bits_value xs) (bits_value ys) (bit_of x) (bit_of y) (bit_lt x) (bit_lt y))

pub number_or : (xs ys : List Bool) → length xs ≡ length ys → bits_value (pairs_of Or xs ys) ≡ bit_or (bits_value xs) (bits_value ys)
number_or [] [] e = refl
number_or [] (y ∷ ys) e = absurd (omega (arith, e))
number_or (x ∷ xs) [] e = absurd (omega (arith, e))
number_or (x ∷ xs) (y ∷ ys) e =
    (λ j. number_or xs ys (omega (arith, e)) j * 2 + or_bit x y j)
    ∙ sym (or_block 1 (bits_value xs) (bits_value ys) (bit_of x) (bit_of y) (bit_lt x) (bit_lt y))

pub number_xor : (xs ys : List Bool) → length xs ≡ length ys → bits_value (pairs_of Xor xs ys) ≡ bit_xor (bits_value xs) (bits_value ys)
number_xor [] [] e = refl
number_xor [] (y ∷ ys) e = absurd (omega (arith, e))
number_xor (x ∷ xs) [] e = absurd (omega (arith, e))
number_xor (x ∷ xs) (y ∷ ys) e =
    (λ j. number_xor xs ys (omega (arith, e)) j * 2 + xor_bit x y j)
    ∙ sym (xor_block 1 (bits_value xs) (bits_value ys) (bit_of x) (bit_of y) (bit_lt x) (bit_lt y))

bit_turned : (b : Bool) → bit_of (not b) + bit_of b ≡ 1
bit_turned true = refl
bit_turned false = refl

turned : (bs : List Bool) → bits_value (map not bs) + bits_value bs + 1 ≡ 2 ^ length bs
turned [] = refl
turned (b ∷ bs) = omega (arith, turned bs, pow-suc 2 (length bs), bit_turned b)

pub number_not : (bs : List Bool) → bits_value (map not bs) ≡ 2 ^ length bs - 1 - bits_value bs
number_not bs = omega (arith, turned bs)

pub number_choice : (t : Bool) (xs ys : List Bool) → bits_value (choice_of t xs ys) ≡ cond t (bits_value xs) (bits_value ys)
number_choice true xs ys = refl
number_choice false xs ys = refl

-- ---- equality

same_test : (x y p q : ℕ) → (x ≡ y → p ≡ q) → (p ≡ q → x ≡ y) → (x == y) ≡ (p == q)
same_test x y p q f g = elim (cases_eq x y) as (λ _. (x == y) ≡ (p == q)) [
  | inl e ↦ eq-eqb x y e ∙ sym (eq-eqb p q (f e))
  | inr n ↦ ne_eqb x y n ∙ sym (ne_eqb p q (λ e. n (g e)))
]

alike_step : (a b : Bool) (x y : ℕ) → (alike a b && (x == y)) ≡ (x * 2 + bit_of a == y * 2 + bit_of b)
alike_step true true x y = same_test x y (x * 2 + 1) (y * 2 + 1) (λ e. omega (arith, e)) (λ e. omega (arith, e))
alike_step true false x y = sym (ne_eqb (x * 2 + 1) (y * 2 + 0) (λ e. absurd (omega (arith, e))))
alike_step false true x y = sym (ne_eqb (x * 2 + 0) (y * 2 + 1) (λ e. absurd (omega (arith, e))))
alike_step false false x y = same_test x y (x * 2 + 0) (y * 2 + 0) (λ e. omega (arith, e)) (λ e. omega (arith, e))

pub number_alike : (xs ys : List Bool) → length xs ≡ length ys → all_alike xs ys ≡ (bits_value xs == bits_value ys)
number_alike [] [] e = refl
number_alike [] (y ∷ ys) e = absurd (omega (arith, e))
number_alike (x ∷ xs) [] e = absurd (omega (arith, e))
number_alike (x ∷ xs) (y ∷ ys) e = ap (λ t. alike x y && t) (number_alike xs ys (omega (arith, e))) ∙ alike_step x y (bits_value xs) (bits_value ys)

-- ---- parts

pub number_take : (n : ℕ) (bs : List Bool) → bits_value (take n bs) ≡ bits_value bs % 2 ^ n
number_take zero bs = omega arith
number_take (suc n) [] = omega arith
number_take (suc n) (b ∷ bs) =
    let x : ℕ = bits_value bs in
    let h : (x * 2 + bit_of b) / 2 ≡ x = omega (arith, bit_small b) in
    let l : (x * 2 + bit_of b) % 2 ≡ bit_of b = omega (arith, bit_small b) in
    (λ j. number_take n bs j * 2 + bit_of b)
    ∙ sym (ap (λ k. (x * 2 + bit_of b) % 2 ^ k) (sym (add-one n)) ∙ mod-pow-add (x * 2 + bit_of b) n 1 ∙ (λ j. (h j % 2 ^ n) * 2 + l j))

pub number_drop : (n : ℕ) (bs : List Bool) → bits_value (drop n bs) ≡ bits_value bs / 2 ^ n
number_drop zero bs = omega arith
number_drop (suc n) [] = omega arith
number_drop (suc n) (b ∷ bs) =
    let x : ℕ = bits_value bs in
    let h : (x * 2 + bit_of b) / 2 ≡ x = omega (arith, bit_small b) in
    let one_more : 1 + n ≡ suc n = omega arith in
    number_drop n bs ∙ sym (ap (λ k. (x * 2 + bit_of b) / 2 ^ k) (sym one_more) ∙ sym (shr-shr (x * 2 + bit_of b) 1 n) ∙ (λ j. h j / 2 ^ n))

pub number_append : (xs ys : List Bool) → bits_value (xs ++ ys) ≡ cat_of (bits_value ys) (bits_value xs) (length xs)
number_append [] ys = omega arith
number_append (x ∷ xs) ys = by (bits_value (xs ++ ys)) (bits_value xs) (bits_value ys) (bit_of x) (2 ^ length xs) (2 ^ suc (length xs)) (number_append xs ys) (pow-suc 2 (length xs))
  where
    by : (n m y b p q : ℕ) → n ≡ y * p + m → q ≡ p * 2 → n * 2 + b ≡ y * q + (m * 2 + b)
    by n m y b p q e f = let g : y * q ≡ y * p * 2 = rw f (omega arith) in omega (arith, e, g)

pub number_zeros : (n : ℕ) → bits_value (replicate n false) ≡ 0
number_zeros zero = refl
number_zeros (suc n) = omega (arith, number_zeros n)

pub number_ones : (n : ℕ) → bits_value (replicate n true) + 1 ≡ 2 ^ n
number_ones zero = refl
number_ones (suc n) = omega (arith, number_ones n, pow-suc 2 n)

-- ---- single bits

pub number_bit : (bs : List Bool) (k : ℕ) → bit_at (bits_value bs) k ≡ bit_of (get_or bs k false)
number_bit [] k = omega (arith, bit_at-zero k)
number_bit (b ∷ bs) zero = bit_at_lowest (bits_value bs * 2 + bit_of b) ∙ omega (arith, bit_small b)
number_bit (b ∷ bs) (suc k) =
    let h : (bits_value bs * 2 + bit_of b) / 2 ≡ bits_value bs = omega (arith, bit_small b) in
    bit_at-suc (bits_value bs * 2 + bit_of b) k ∙ ap (λ n. bit_at n k) h ∙ number_bit bs k

-- the top bit tells the sign
pub number_negative : (bs : List Bool) (b : Bool) → is_negative_of (length bs + 1) (bits_value (bs ++ b ∷ [])) ≡ b
number_negative bs b =
    let w : length bs + 1 - 1 ≡ length bs = omega arith in
    (λ j. nat_le (2 ^ w j) (number_push bs b j)) ∙ by b (bits_value bs) (2 ^ length bs) (number_below bs)
  where
    by : (b : Bool) (m p : ℕ) → m < p → nat_le p (m + bit_of b * p) ≡ b
    by true m p h = grind (arith, nat_tests)
    by false m p h = grind (arith, nat_tests)

bit_again : (n : ℕ) → n < 2 → bit_of (n == 1) ≡ n
bit_again n h = elim (cases_eq n 1) as (λ _. bit_of (n == 1) ≡ n) [
  | inl e ↦ ap bit_of (eq-eqb n 1 e) ∙ sym e
  | inr q ↦ ap bit_of (ne_eqb n 1 q) ∙ omega (arith, h, q)
]

-- one bit more of a number
pub number_more : (book : Diagrams) (out : List ℕ) (set word x k : ℕ) → length out ≡ k → has_word book set word ≡ (bit_at x k == 1) → number_at book out word ≡ x % 2 ^ k → number_at book (out ++ set ∷ []) word ≡ x % 2 ^ (k + 1)
number_more book out set word x k long here before =
    let turn : 1 + k ≡ k + 1 = omega arith in
    ap bits_value (bools_push book out set word)
    ∙ number_push (bools book out word) (has_word book set word)
    ∙ (λ j. before j + bit_of (here j) * 2 ^ (bools_long book out word ∙ long) j)
    ∙ (λ j. x % 2 ^ k + bit_again (bit_at x k) (bit_at-lt x k) j * 2 ^ k)
    ∙ add_comm (x % 2 ^ k) (bit_at x k * 2 ^ k)
    ∙ sym (mod-pow-add x 1 k)
    ∙ ap (λ n. x % 2 ^ n) turn

pub number_one : (book : Diagrams) (set word : ℕ) → number_at book (set ∷ []) word ≡ bit_of (has_word book set word)
number_one book set word = omega arith
