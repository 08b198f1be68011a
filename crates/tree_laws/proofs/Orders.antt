-- Comparisons of numbers in two's complement by comparisons of whole numbers, and tests by the top
-- bit of a difference.
use Rattle.std.proofs.Common.{◌≡◌, ℕ, ◌+◌, ◌-◌, ◌*◌, ◌/◌, ◌%◌, ◌^◌, ◌<◌, ◌≤◌, ◌==◌, Bool, true, false, cond, ◌&&◌, nat_lt, inl, inr, ◌⊎◌, sym, ◌∙◌, ap, arith, subst, refl}
use Rattle.std.specs.Prelude.{pos, ◌-ℤ◌, ◌<ℤ◌, ◌≤ℤ◌, ℤ, int_lt, bit_and, bit_xor}
use Rattle.std.proofs.Math.Nat.{mod-eq_of_lt, add-mod_right, mod-lt}
use Rattle.std.proofs.lemmas.Int.{ints}
use Rattle.std.proofs.lemmas.Bool.{cases_lt, eq-eqb, ne_eqb, lt-ltb, le-ltb, le-leb, lt-leb}
use Rattle.std.proofs.lemmas.Nat.{pow_pos, and_block, xor_block, and_mask, div-mul-add, mod_below}
use Rattle.std.specs.Int.Bits.{and_zero_r, xor_zero_r}
use Rattle.rec_bits.specs.Operators.{apply1_of, apply2_of, bit_of, is_negative_of, sext_of, signed_of, slice_of}
use Rattle.rec_bits.specs.declared.operator.Op1.TheVariants.{Not}
use Rattle.rec_bits.specs.declared.operator.Op2.TheVariants.{And, Eq, Lts, Ltu, Shl, Sub, Xor}
use Rattle.rec_bits.proofs.Bits.{double_half}
use Rattle.tree_laws.proofs.KnownTests.{lt_moved}
use Rattle.tree_laws.proofs.Shifts.{slice_shl}
use Rattle.tree_laws.proofs.Compared.{not_ltu, not_gtu}
use Rattle.tree_laws.proofs.Signs.{power_up, sign_cases, sext_high, sext_small}
use Rattle.tree_laws.proofs.Bitwise.{IsTop, and_bitwise, bitwise_top, either, spread, top_is, top_of, xor_bitwise}

-- ---- numbers in two's complement, moved up to begin at 0

pub shifted : ℕ → ℕ → ℕ
shifted w a = cond (is_negative_of w a) (a - 2 ^ (w - 1)) (a + 2 ^ (w - 1))

pub shifted_high : (w a : ℕ) → 2 ^ (w - 1) ≤ a → shifted w a ≡ a - 2 ^ (w - 1)
unfolding shifted
shifted_high w a h = ap (λ t. cond t (a - 2 ^ (w - 1)) (a + 2 ^ (w - 1))) (le-leb (2 ^ (w - 1)) a h)

pub shifted_small : (w a : ℕ) → a < 2 ^ (w - 1) → shifted w a ≡ a + 2 ^ (w - 1)
unfolding shifted
shifted_small w a h = ap (λ t. cond t (a - 2 ^ (w - 1)) (a + 2 ^ (w - 1))) (lt-leb (2 ^ (w - 1)) a h)

signed_high : (w a : ℕ) → 2 ^ (w - 1) ≤ a → signed_of w a ≡ pos a -ℤ pos (2 ^ w)
signed_high w a h = ap (λ t. cond t (pos a -ℤ pos (2 ^ w)) (pos a)) (le-leb (2 ^ (w - 1)) a h)

signed_small : (w a : ℕ) → a < 2 ^ (w - 1) → signed_of w a ≡ pos a
signed_small w a h = ap (λ t. cond t (pos a -ℤ pos (2 ^ w)) (pos a)) (lt-leb (2 ^ (w - 1)) a h)

signed_shifted : (w a : ℕ) → 1 ≤ w → signed_of w a ≡ pos (shifted w a) -ℤ pos (2 ^ (w - 1))
signed_shifted w a g = elim (sign_cases w a) as (λ _. signed_of w a ≡ pos (shifted w a) -ℤ pos (2 ^ (w - 1))) [
  | inl s ↦ signed_high w a s.1 ∙ down a (2 ^ (w - 1)) (2 ^ w) (double_half w g) s.1 ∙ ap (λ n. pos n -ℤ pos (2 ^ (w - 1))) (sym (shifted_high w a s.1))
  | inr s ↦ signed_small w a s.1 ∙ up a (2 ^ (w - 1)) ∙ ap (λ n. pos n -ℤ pos (2 ^ (w - 1))) (sym (shifted_small w a s.1))
]
  where
    down : (n h m : ℕ) → m ≡ h + h → h ≤ n → pos n -ℤ pos m ≡ pos (n - h) -ℤ pos h
    down n h m e l = omega (arith, ints, e, l)

    up : (n h : ℕ) → pos n ≡ pos (n + h) -ℤ pos h
    up n h = omega (arith, ints)

int_holds : (x y : ℤ) → x <ℤ y → int_lt x y ≡ true
int_holds x y h = grind (arith, ints)

int_fails : (x y : ℤ) → y ≤ℤ x → int_lt x y ≡ false
int_fails x y h = grind (arith, ints)

lt_apart : (m n h : ℕ) → int_lt (pos m -ℤ pos h) (pos n -ℤ pos h) ≡ nat_lt m n
lt_apart m n h = elim (cases_lt m n) as (λ _. int_lt (pos m -ℤ pos h) (pos n -ℤ pos h) ≡ nat_lt m n) [
  | inl l ↦ (let s : (pos m -ℤ pos h) <ℤ (pos n -ℤ pos h) = omega (arith, ints, l) in int_holds (pos m -ℤ pos h) (pos n -ℤ pos h) s ∙ sym (lt-ltb m n l))
  | inr g ↦ (let s : (pos n -ℤ pos h) ≤ℤ (pos m -ℤ pos h) = omega (arith, ints, g) in int_fails (pos m -ℤ pos h) (pos n -ℤ pos h) s ∙ sym (le-ltb m n g))
]

pub lts_shifted : (w a b : ℕ) → 1 ≤ w → apply2_of Lts w a b ≡ bit_of (nat_lt (shifted w a) (shifted w b))
lts_shifted w a b g =
    ap (λ z. bit_of (int_lt z (signed_of w b))) (signed_shifted w a g)
    ∙ ap (λ z. bit_of (int_lt (pos (shifted w a) -ℤ pos (2 ^ (w - 1))) z)) (signed_shifted w b g)
    ∙ ap bit_of (lt_apart (shifted w a) (shifted w b) (2 ^ (w - 1)))

-- ---- below 0

pub shifted_zero : (w : ℕ) → shifted w 0 ≡ 2 ^ (w - 1)
shifted_zero w = let e : 0 + 2 ^ (w - 1) ≡ 2 ^ (w - 1) = omega arith in shifted_small w 0 (pow_pos (w - 1)) ∙ e

pub lts_top : (w d : ℕ) → 1 ≤ w → d < 2 ^ w → apply2_of Lts w d 0 ≡ bit_of (is_negative_of w d)
lts_top w d g lt =
    lts_shifted w d 0 g ∙ ap (λ n. bit_of (nat_lt (shifted w d) n)) (shifted_zero w)
    ∙ elim (sign_cases w d) as (λ _. bit_of (nat_lt (shifted w d) (2 ^ (w - 1))) ≡ bit_of (is_negative_of w d)) [
      | inl s ↦ (let l : shifted w d < 2 ^ (w - 1) = (let e = shifted_high w d s.1 in let p = double_half w g in omega (arith, e, p, lt, s.1)) in
          ap bit_of (lt-ltb (shifted w d) (2 ^ (w - 1)) l ∙ sym s.0))
      | inr s ↦ (let l : 2 ^ (w - 1) ≤ shifted w d = (let e = shifted_small w d s.1 in omega (arith, e)) in
          ap bit_of (le-ltb (shifted w d) (2 ^ (w - 1)) l ∙ sym s.0))
    ]

-- lts-sign: the top bit
pub top_slice : (w a : ℕ) (t : Bool) → 1 ≤ w → IsTop w a t → slice_of a (w - 1) (w - 1) ≡ bit_of t
top_slice w a t g p =
    let e : w - 1 + 1 - (w - 1) ≡ 1 = omega arith in
    ap (λ n. n / 2 ^ (w - 1) % 2 ^ (w - 1 + 1 - (w - 1))) p.is
    ∙ ap (λ n. n % 2 ^ (w - 1 + 1 - (w - 1))) (div-mul-add (spread t 1) (2 ^ (w - 1)) p.rest p.low)
    ∙ ap (λ n. spread t 1 % 2 ^ n) e ∙ one t
  where
    one : (t : Bool) → spread t 1 % 2 ^ 1 ≡ bit_of t
    one true = refl
    one false = refl

pub lts_sign : (w a : ℕ) → 1 ≤ w → a < 2 ^ w → apply2_of Lts w a 0 ≡ slice_of a (w - 1) (w - 1)
lts_sign w a g lt = lts_top w a g lt ∙ sym (top_slice w a (is_negative_of w a) g (top_of w a g lt))

-- ---- the sign of a difference

module _ (x p q : ℕ) (g : 1 ≤ x) (lp : p < 2 ^ x) (lq : q < 2 ^ x) where
  down_from : q ≤ p → apply2_of Sub x p q ≡ p - q
  down_from h =
      let e : p + 2 ^ x - q ≡ p - q + 2 ^ x = omega (arith, h) in
      let l : p - q < 2 ^ x = omega (arith, lp) in
      ap (λ n. n % 2 ^ x) e ∙ add-mod_right (p - q) (2 ^ x) ∙ mod-eq_of_lt l

  around_from : p < q → apply2_of Sub x p q ≡ p + 2 ^ x - q
  around_from h = mod-eq_of_lt (let l : p + 2 ^ x - q < 2 ^ x = omega (arith, h, lq) in l)

  pub negative_near : p < q → q - p ≤ 2 ^ (x - 1) → is_negative_of x (apply2_of Sub x p q) ≡ true
  negative_near h k =
      let l : 2 ^ (x - 1) ≤ p + 2 ^ x - q = omega (arith, double_half x g, h, k) in
      ap (is_negative_of x) (around_from h) ∙ le-leb (2 ^ (x - 1)) (p + 2 ^ x - q) l

  pub negative_far : q ≤ p → 2 ^ (x - 1) ≤ p - q → is_negative_of x (apply2_of Sub x p q) ≡ true
  negative_far h k = ap (is_negative_of x) (down_from h) ∙ le-leb (2 ^ (x - 1)) (p - q) k

  pub positive_near : q ≤ p → p - q < 2 ^ (x - 1) → is_negative_of x (apply2_of Sub x p q) ≡ false
  positive_near h k = ap (is_negative_of x) (down_from h) ∙ lt-leb (2 ^ (x - 1)) (p - q) k

  pub positive_far : p < q → 2 ^ (x - 1) < q - p → is_negative_of x (apply2_of Sub x p q) ≡ false
  positive_far h k =
      let l : p + 2 ^ x - q < 2 ^ (x - 1) = omega (arith, double_half x g, h, k, lq) in
      ap (is_negative_of x) (around_from h) ∙ lt-leb (2 ^ (x - 1)) (p + 2 ^ x - q) l

  difference_below : apply2_of Sub x p q < 2 ^ x
  difference_below = mod_below (p + 2 ^ x - q) (2 ^ x) (pow_pos x)

  -- numbers that are no further apart
  pub near_sign : q ≤ p + 2 ^ (x - 1) → p < q + 2 ^ (x - 1) → is_negative_of x (apply2_of Sub x p q) ≡ nat_lt p q
  near_sign h k = elim (cases_lt p q) as (λ _. is_negative_of x (apply2_of Sub x p q) ≡ nat_lt p q) [
    | inl l ↦ (let n : q - p ≤ 2 ^ (x - 1) = omega (arith, h) in negative_near l n ∙ sym (lt-ltb p q l))
    | inr m ↦ (let n : p - q < 2 ^ (x - 1) = omega (arith, k, m) in positive_near m n ∙ sym (le-ltb p q m))
  ]

pub wide_room : (w x : ℕ) → 1 ≤ w → w < x → 2 ^ w ≤ 2 ^ (x - 1)
wide_room w x g h = power_up w (x - 1) (omega (arith, h))

-- ltu-wide with lts: numbers that are extended with zeros
pub ltu_lts_wide : (w x a b : ℕ) → 1 ≤ w → w < x → a < 2 ^ w → b < 2 ^ w → apply2_of Lts x a b ≡ apply2_of Ltu w a b
ltu_lts_wide w x a b g h p q =
    let room = wide_room w x g h in
    let la : a < 2 ^ (x - 1) = omega (arith, room, p) in
    let lb : b < 2 ^ (x - 1) = omega (arith, room, q) in
    let one : 1 ≤ x = omega (arith, g, h) in
    lts_shifted x a b one ∙ ap (λ n. bit_of (nat_lt n (shifted x b))) (shifted_small x a la) ∙ ap (λ n. bit_of (nat_lt (a + 2 ^ (x - 1)) n)) (shifted_small x b lb)
    ∙ ap bit_of (lt_moved a b (2 ^ (x - 1)))

-- ltu-diff
pub ltu_diff : (w x a b : ℕ) → 1 ≤ w → w < x → a < 2 ^ w → b < 2 ^ w → apply2_of Lts x (apply2_of Sub x a b) 0 ≡ apply2_of Ltu w a b
ltu_diff w x a b g h p q =
    let room = wide_room w x g h in
    let one : 1 ≤ x = omega (arith, g, h) in
    let up = power_up (x - 1) x (omega arith) in
    let la : a < 2 ^ x = omega (arith, room, up, p) in
    let lb : b < 2 ^ x = omega (arith, room, up, q) in
    let near : b ≤ a + 2 ^ (x - 1) = omega (arith, room, q) in
    let far : a < b + 2 ^ (x - 1) = omega (arith, room, p) in
    lts_top x (apply2_of Sub x a b) one (difference_below x a b one la lb) ∙ ap bit_of (near_sign x a b one la lb near far)

-- the order of numbers in two's complement by their signs
below_by_sign : (w a b : ℕ) → 2 ^ (w - 1) ≤ a → b < 2 ^ (w - 1) → 1 ≤ w → a < 2 ^ w → nat_lt (shifted w a) (shifted w b) ≡ true
below_by_sign w a b h l g lt =
    let e = shifted_high w a h in
    let f = shifted_small w b l in
    lt-ltb (shifted w a) (shifted w b) (omega (arith, e, f, double_half w g, lt))

above_by_sign : (w a b : ℕ) → a < 2 ^ (w - 1) → 2 ^ (w - 1) ≤ b → 1 ≤ w → b < 2 ^ w → nat_lt (shifted w a) (shifted w b) ≡ false
above_by_sign w a b l h g lt =
    let e = shifted_small w a l in
    let f = shifted_high w b h in
    le-ltb (shifted w a) (shifted w b) (omega (arith, e, f, double_half w g, lt))

same_high : (w a b : ℕ) → 2 ^ (w - 1) ≤ a → 2 ^ (w - 1) ≤ b → nat_lt (shifted w a) (shifted w b) ≡ nat_lt a b
same_high w a b h k =
    let e = shifted_high w a h in
    let f = shifted_high w b k in
    elim (cases_lt a b) as (λ _. nat_lt (shifted w a) (shifted w b) ≡ nat_lt a b) [
      | inl l ↦ lt-ltb (shifted w a) (shifted w b) (omega (arith, e, f, l, h, k)) ∙ sym (lt-ltb a b l)
      | inr l ↦ le-ltb (shifted w a) (shifted w b) (omega (arith, e, f, l, h, k)) ∙ sym (le-ltb a b l)
    ]

same_small : (w a b : ℕ) → a < 2 ^ (w - 1) → b < 2 ^ (w - 1) → nat_lt (shifted w a) (shifted w b) ≡ nat_lt a b
same_small w a b h k =
    let e = shifted_small w a h in
    let f = shifted_small w b k in
    elim (cases_lt a b) as (λ _. nat_lt (shifted w a) (shifted w b) ≡ nat_lt a b) [
      | inl l ↦ lt-ltb (shifted w a) (shifted w b) (omega (arith, e, f, l)) ∙ sym (lt-ltb a b l)
      | inr l ↦ le-ltb (shifted w a) (shifted w b) (omega (arith, e, f, l)) ∙ sym (le-ltb a b l)
    ]

-- lts-diff: the sign of a difference that has room
module _ (w x a b : ℕ) (g : 1 ≤ w) (h : w < x) (p : a < 2 ^ w) (q : b < 2 ^ w) where
  one : 1 ≤ x
  one = omega (arith, g, h)

  room : 2 ^ w ≤ 2 ^ (x - 1)
  room = wide_room w x g h

  half : 2 ^ w ≡ 2 ^ (w - 1) + 2 ^ (w - 1)
  half = double_half w g

  whole : 2 ^ x ≡ 2 ^ (x - 1) + 2 ^ (x - 1)
  whole = double_half x (omega (arith, g, h))

  extra : ℕ
  extra = 2 ^ x - 2 ^ w

  high_below : (n : ℕ) → n < 2 ^ w → n + (2 ^ x - 2 ^ w) < 2 ^ x
  high_below n l = omega (arith, l, room, whole)

  small_below : (n : ℕ) → n < 2 ^ w → n < 2 ^ x
  small_below n l = omega (arith, l, room, whole)

  wide_sign : is_negative_of x (apply2_of Sub x (sext_of a w x) (sext_of b w x)) ≡ nat_lt (shifted w a) (shifted w b)
  wide_sign = by (sign_cases w a) (sign_cases w b)
    where
      in_place : (m n : ℕ) → sext_of a w x ≡ m → sext_of b w x ≡ n → is_negative_of x (apply2_of Sub x (sext_of a w x) (sext_of b w x)) ≡ is_negative_of x (apply2_of Sub x m n)
      in_place m n e f = (λ j. is_negative_of x (apply2_of Sub x (e j) (f j)))

      by : ((is_negative_of w a ≡ true) × (2 ^ (w - 1) ≤ a)) ⊎ ((is_negative_of w a ≡ false) × (a < 2 ^ (w - 1)))
          → ((is_negative_of w b ≡ true) × (2 ^ (w - 1) ≤ b)) ⊎ ((is_negative_of w b ≡ false) × (b < 2 ^ (w - 1)))
          → is_negative_of x (apply2_of Sub x (sext_of a w x) (sext_of b w x)) ≡ nat_lt (shifted w a) (shifted w b)
      by (inl s) (inl t) =
          let m : ℕ = a + (2 ^ x - 2 ^ w) in
          let n : ℕ = b + (2 ^ x - 2 ^ w) in
          let near : n ≤ m + 2 ^ (x - 1) = omega (arith, room, q, half, s.1) in
          let far : m < n + 2 ^ (x - 1) = omega (arith, room, p, half, t.1) in
          in_place m n (sext_high w x a s.1) (sext_high w x b t.1) ∙ near_sign x m n one (high_below a p) (high_below b q) near far
          ∙ lt_moved a b (2 ^ x - 2 ^ w) ∙ sym (same_high w a b s.1 t.1)
      by (inl s) (inr t) =
          let m : ℕ = a + (2 ^ x - 2 ^ w) in
          let order : b ≤ m = omega (arith, s.1, t.1) in
          let far : 2 ^ (x - 1) ≤ m - b = omega (arith, room, whole, half, s.1, t.1) in
          in_place m b (sext_high w x a s.1) (sext_small w x b t.1) ∙ negative_far x m b one (high_below a p) (small_below b q) order far
          ∙ sym (below_by_sign w a b s.1 t.1 g p)
      by (inr s) (inl t) =
          let n : ℕ = b + (2 ^ x - 2 ^ w) in
          let order : a < n = omega (arith, s.1, t.1) in
          let far : 2 ^ (x - 1) < n - a = omega (arith, room, whole, half, s.1, t.1) in
          in_place a n (sext_small w x a s.1) (sext_high w x b t.1) ∙ positive_far x a n one (small_below a p) (high_below b q) order far
          ∙ sym (above_by_sign w a b s.1 t.1 g q)
      by (inr s) (inr t) =
          let near : b ≤ a + 2 ^ (x - 1) = omega (arith, room, q) in
          let far : a < b + 2 ^ (x - 1) = omega (arith, room, p) in
          in_place a b (sext_small w x a s.1) (sext_small w x b t.1) ∙ near_sign x a b one (small_below a p) (small_below b q) near far
          ∙ sym (same_small w a b s.1 t.1)

  pub lts_diff : apply2_of Lts x (apply2_of Sub x (sext_of a w x) (sext_of b w x)) 0 ≡ apply2_of Lts w a b
  lts_diff =
      lts_top x (apply2_of Sub x (sext_of a w x) (sext_of b w x)) one (mod_below (sext_of a w x + 2 ^ x - sext_of b w x) (2 ^ x) (pow_pos x))
      ∙ ap bit_of wide_sign ∙ sym (lts_shifted w a b g)

-- ---- at one width, where a difference may pass its ends

module _ (w a b : ℕ) (g : 1 ≤ w) (p : a < 2 ^ w) (q : b < 2 ^ w) where
  gap : ℕ
  gap = apply2_of Sub w a b

  half_of : 2 ^ w ≡ 2 ^ (w - 1) + 2 ^ (w - 1)
  half_of = double_half w g

  gap_below : apply2_of Sub w a b < 2 ^ w
  gap_below = mod_below (a + 2 ^ w - b) (2 ^ w) (pow_pos w)

  -- the top bit of `d ^ ((a ^ b) & (d ^ c))`, where c is a or b
  mixed_top : (c : ℕ) → c < 2 ^ w → is_negative_of w (bit_xor (apply2_of Sub w a b) (bit_and (bit_xor a b) (bit_xor (apply2_of Sub w a b) c)))
      ≡ either (is_negative_of w (apply2_of Sub w a b)) (either (is_negative_of w a) (is_negative_of w b) && either (is_negative_of w (apply2_of Sub w a b)) (is_negative_of w c))
  mixed_top c l =
      let d : ℕ = apply2_of Sub w a b in
      let td = top_of w (apply2_of Sub w a b) g gap_below in
      top_is w _ _ (bitwise_top bit_xor either xor_bitwise w (apply2_of Sub w a b) _ (is_negative_of w (apply2_of Sub w a b)) _ td
      (bitwise_top bit_and (λ s t. s && t) and_bitwise w _ _ _ _
      (bitwise_top bit_xor either xor_bitwise w a b (is_negative_of w a) (is_negative_of w b) (top_of w a g p) (top_of w b g q))
      (bitwise_top bit_xor either xor_bitwise w (apply2_of Sub w a b) c (is_negative_of w (apply2_of Sub w a b)) (is_negative_of w c) td (top_of w c g l))))

  mixed_below : (c : ℕ) → c < 2 ^ w → bit_xor (apply2_of Sub w a b) (bit_and (bit_xor a b) (bit_xor (apply2_of Sub w a b) c)) < 2 ^ w
  mixed_below c l =
      xor_bitwise.below w (apply2_of Sub w a b) _ gap_below (and_bitwise.below w _ _ (xor_bitwise.below w a b p q) (xor_bitwise.below w (apply2_of Sub w a b) c gap_below l))

  -- with equal top bits it is that of the difference
  near_gap : 2 ^ (w - 1) ≤ a → 2 ^ (w - 1) ≤ b → is_negative_of w (apply2_of Sub w a b) ≡ nat_lt a b
  near_gap h k = near_sign w a b g p q (omega (arith, half_of, q, h)) (omega (arith, half_of, p, k))

  near_gap_small : a < 2 ^ (w - 1) → b < 2 ^ (w - 1) → is_negative_of w (apply2_of Sub w a b) ≡ nat_lt a b
  near_gap_small h k = near_sign w a b g p q (omega (arith, k)) (omega (arith, h))

  mixes : (s t u v : Bool) → is_negative_of w a ≡ s → is_negative_of w b ≡ t → (c : ℕ) → c < 2 ^ w → is_negative_of w c ≡ v → is_negative_of w (apply2_of Sub w a b) ≡ u
      → is_negative_of w (bit_xor (apply2_of Sub w a b) (bit_and (bit_xor a b) (bit_xor (apply2_of Sub w a b) c))) ≡ either u (either s t && either u v)
  mixes s t u v es et c l ev eu = mixed_top c l ∙ (λ j. either (eu j) (either (es j) (et j) && either (eu j) (ev j)))

  kept : (u v : Bool) → either u (false && either u v) ≡ u
  kept true v = refl
  kept false v = refl

  taken : (u v : Bool) → either u (true && either u v) ≡ v
  taken true true = refl
  taken true false = refl
  taken false true = refl
  taken false false = refl

  lts_mix : is_negative_of w (bit_xor (apply2_of Sub w a b) (bit_and (bit_xor a b) (bit_xor (apply2_of Sub w a b) a))) ≡ nat_lt (shifted w a) (shifted w b)
  lts_mix = by (sign_cases w a) (sign_cases w b)
    where
      u : Bool
      u = is_negative_of w (apply2_of Sub w a b)

      by : ((is_negative_of w a ≡ true) × (2 ^ (w - 1) ≤ a)) ⊎ ((is_negative_of w a ≡ false) × (a < 2 ^ (w - 1)))
          → ((is_negative_of w b ≡ true) × (2 ^ (w - 1) ≤ b)) ⊎ ((is_negative_of w b ≡ false) × (b < 2 ^ (w - 1)))
          → is_negative_of w (bit_xor (apply2_of Sub w a b) (bit_and (bit_xor a b) (bit_xor (apply2_of Sub w a b) a))) ≡ nat_lt (shifted w a) (shifted w b)
      by (inl s) (inl t) =
          mixes true true (is_negative_of w (apply2_of Sub w a b)) true s.0 t.0 a p s.0 refl ∙ kept (is_negative_of w (apply2_of Sub w a b)) true
          ∙ near_gap s.1 t.1 ∙ sym (same_high w a b s.1 t.1)
      by (inl s) (inr t) =
          mixes true false (is_negative_of w (apply2_of Sub w a b)) true s.0 t.0 a p s.0 refl ∙ taken (is_negative_of w (apply2_of Sub w a b)) true ∙ sym (below_by_sign w a b s.1 t.1 g p)
      by (inr s) (inl t) =
          mixes false true (is_negative_of w (apply2_of Sub w a b)) false s.0 t.0 a p s.0 refl ∙ taken (is_negative_of w (apply2_of Sub w a b)) false ∙ sym (above_by_sign w a b s.1 t.1 g q)
      by (inr s) (inr t) =
          mixes false false (is_negative_of w (apply2_of Sub w a b)) false s.0 t.0 a p s.0 refl ∙ kept (is_negative_of w (apply2_of Sub w a b)) false
          ∙ near_gap_small s.1 t.1 ∙ sym (same_small w a b s.1 t.1)

  ltu_mix : is_negative_of w (bit_xor (apply2_of Sub w a b) (bit_and (bit_xor a b) (bit_xor (apply2_of Sub w a b) b))) ≡ nat_lt a b
  ltu_mix = by (sign_cases w a) (sign_cases w b)
    where
      by : ((is_negative_of w a ≡ true) × (2 ^ (w - 1) ≤ a)) ⊎ ((is_negative_of w a ≡ false) × (a < 2 ^ (w - 1)))
          → ((is_negative_of w b ≡ true) × (2 ^ (w - 1) ≤ b)) ⊎ ((is_negative_of w b ≡ false) × (b < 2 ^ (w - 1)))
          → is_negative_of w (bit_xor (apply2_of Sub w a b) (bit_and (bit_xor a b) (bit_xor (apply2_of Sub w a b) b))) ≡ nat_lt a b
      by (inl s) (inl t) =
          mixes true true (is_negative_of w (apply2_of Sub w a b)) true s.0 t.0 b q t.0 refl ∙ kept (is_negative_of w (apply2_of Sub w a b)) true ∙ near_gap s.1 t.1
      by (inl s) (inr t) =
          let order : b ≤ a = omega (arith, s.1, t.1) in
          mixes true false (is_negative_of w (apply2_of Sub w a b)) false s.0 t.0 b q t.0 refl ∙ taken (is_negative_of w (apply2_of Sub w a b)) false ∙ sym (le-ltb a b order)
      by (inr s) (inl t) =
          let order : a < b = omega (arith, s.1, t.1) in
          mixes false true (is_negative_of w (apply2_of Sub w a b)) true s.0 t.0 b q t.0 refl ∙ taken (is_negative_of w (apply2_of Sub w a b)) true ∙ sym (lt-ltb a b order)
      by (inr s) (inr t) =
          mixes false false (is_negative_of w (apply2_of Sub w a b)) false s.0 t.0 b q t.0 refl ∙ kept (is_negative_of w (apply2_of Sub w a b)) false ∙ near_gap_small s.1 t.1

  -- lts-over
  pub lts_over : apply2_of Lts w (apply2_of Xor w (apply2_of Sub w a b) (apply2_of And w (apply2_of Xor w a b) (apply2_of Xor w (apply2_of Sub w a b) a))) 0 ≡ apply2_of Lts w a b
  lts_over = lts_top w _ g (mixed_below a p) ∙ ap bit_of lts_mix ∙ sym (lts_shifted w a b g)

  -- ltu-over
  pub ltu_over : apply2_of Lts w (apply2_of Xor w (apply2_of Sub w a b) (apply2_of And w (apply2_of Xor w a b) (apply2_of Xor w (apply2_of Sub w a b) b))) 0 ≡ apply2_of Ltu w a b
  ltu_over = lts_top w _ g (mixed_below b q) ∙ ap bit_of ltu_mix

-- ltu-lts: both with the other top bit
pub other_top : (w a : ℕ) → 1 ≤ w → a < 2 ^ w → shifted w (apply2_of Xor w a (2 ^ (w - 1))) ≡ a
other_top w a g lt = by (sign_cases w a)
  where
    h : ℕ
    h = 2 ^ (w - 1)

    split : (s r : ℕ) → r < 2 ^ (w - 1) → bit_xor (s * 2 ^ (w - 1) + r) (2 ^ (w - 1)) ≡ bit_xor s 1 * 2 ^ (w - 1) + r
    split s r l =
        let e : 2 ^ (w - 1) ≡ 1 * 2 ^ (w - 1) + 0 = omega arith in
        ap (bit_xor (s * 2 ^ (w - 1) + r)) e ∙ xor_block (w - 1) s 1 r 0 l (pow_pos (w - 1)) ∙ ap (λ n. bit_xor s 1 * 2 ^ (w - 1) + n) (xor_zero_r r)

    by : ((is_negative_of w a ≡ true) × (2 ^ (w - 1) ≤ a)) ⊎ ((is_negative_of w a ≡ false) × (a < 2 ^ (w - 1))) → shifted w (bit_xor a (2 ^ (w - 1))) ≡ a
    by (inl s) =
        let r : ℕ = a - 2 ^ (w - 1) in
        let l : r < 2 ^ (w - 1) = omega (arith, double_half w g, lt, s.1) in
        let e : a ≡ 1 * 2 ^ (w - 1) + r = omega (arith, s.1) in
        let f : bit_xor 1 1 * 2 ^ (w - 1) + r ≡ r = (let z : 0 * 2 ^ (w - 1) + r ≡ r = omega arith in z) in
        let back : r + 2 ^ (w - 1) ≡ a = omega (arith, s.1) in
        ap (shifted w) (ap (λ n. bit_xor n (2 ^ (w - 1))) e ∙ split 1 r l ∙ f) ∙ shifted_small w r l ∙ back
    by (inr s) =
        let e : a ≡ 0 * 2 ^ (w - 1) + a = omega arith in
        let f : bit_xor 0 1 * 2 ^ (w - 1) + a ≡ a + 2 ^ (w - 1) = (let z : 1 * 2 ^ (w - 1) + a ≡ a + 2 ^ (w - 1) = omega arith in z) in
        let high : 2 ^ (w - 1) ≤ a + 2 ^ (w - 1) = omega arith in
        let back : a + 2 ^ (w - 1) - 2 ^ (w - 1) ≡ a = omega arith in
        ap (shifted w) (ap (λ n. bit_xor n (2 ^ (w - 1))) e ∙ split 0 a s.1 ∙ f) ∙ shifted_high w (a + 2 ^ (w - 1)) high ∙ back

pub ltu_lts : (w a b : ℕ) → 1 ≤ w → a < 2 ^ w → b < 2 ^ w → apply2_of Lts w (apply2_of Xor w a (2 ^ (w - 1))) (apply2_of Xor w b (2 ^ (w - 1))) ≡ apply2_of Ltu w a b
ltu_lts w a b g p q =
    lts_shifted w (apply2_of Xor w a (2 ^ (w - 1))) (apply2_of Xor w b (2 ^ (w - 1))) g
    ∙ ap (λ n. bit_of (nat_lt n (shifted w (apply2_of Xor w b (2 ^ (w - 1)))))) (other_top w a g p) ∙ ap (λ n. bit_of (nat_lt a n)) (other_top w b g q)

-- ---- negations

-- not a slt c is c - 1 slt a, where c isn't the least number
pub not_lts : (w a c : ℕ) → 1 ≤ w → c < 2 ^ w → (c ≡ 2 ^ (w - 1) → ⊥) → apply2_of Lts w (apply2_of Sub w c 1) a ≡ 1 - apply2_of Lts w a c
not_lts w a c g lt ne =
    lts_shifted w (apply2_of Sub w c 1) a g ∙ ap (λ n. bit_of (nat_lt n (shifted w a))) before
    ∙ not_ltu w (shifted w a) (shifted w c) some ∙ ap (λ n. 1 - n) (sym (lts_shifted w a c g))
  where
    d : 2 ^ w ≡ 2 ^ (w - 1) + 2 ^ (w - 1)
    d = double_half w g

    one : 1 < 2 ^ w
    one = omega (arith, d, pow_pos (w - 1))

    cases : ((is_negative_of w c ≡ true) × (2 ^ (w - 1) ≤ c)) ⊎ ((is_negative_of w c ≡ false) × (c < 2 ^ (w - 1))) → (0 < shifted w c) × (shifted w (apply2_of Sub w c 1) ≡ shifted w c - 1)
    cases (inl s) =
        let more : 2 ^ (w - 1) < c = omega (arith, s.1, ne) in
        let high : 2 ^ (w - 1) ≤ c - 1 = omega (arith, more) in
        let e : apply2_of Sub w c 1 ≡ c - 1 = down_from w c 1 g lt one (omega (arith, more)) in
        let f = shifted_high w c s.1 in
        let k : c - 1 - 2 ^ (w - 1) ≡ shifted w c - 1 = omega (arith, f, more) in
        (omega (arith, f, more), ap (shifted w) e ∙ shifted_high w (c - 1) high ∙ k)
    cases (inr s) =
        let f = shifted_small w c s.1 in
        let pos_c : 0 < shifted w c = omega (arith, f, pow_pos (w - 1)) in (
          pos_c,
          elim (cases_lt 0 c) as (λ _. shifted w (apply2_of Sub w c 1) ≡ shifted w c - 1) [
            | inl l ↦ (let e : apply2_of Sub w c 1 ≡ c - 1 = down_from w c 1 g lt one (omega (arith, l)) in
                let low : c - 1 < 2 ^ (w - 1) = omega (arith, s.1) in
                let k : c - 1 + 2 ^ (w - 1) ≡ shifted w c - 1 = omega (arith, f, l) in
                ap (shifted w) e ∙ shifted_small w (c - 1) low ∙ k)
            | inr l ↦ (let e : apply2_of Sub w c 1 ≡ c + 2 ^ w - 1 = around_from w c 1 g lt one (omega (arith, l)) in
                let high : 2 ^ (w - 1) ≤ c + 2 ^ w - 1 = omega (arith, d, pow_pos (w - 1)) in
                let k : c + 2 ^ w - 1 - 2 ^ (w - 1) ≡ shifted w c - 1 = omega (arith, f, d, l) in
                ap (shifted w) e ∙ shifted_high w (c + 2 ^ w - 1) high ∙ k)
          ],
        )

    some : 0 < shifted w c
    some = (cases (sign_cases w c)).0

    before : shifted w (apply2_of Sub w c 1) ≡ shifted w c - 1
    before = (cases (sign_cases w c)).1

-- not c slt a is a slt c + 1, where c isn't the greatest
pub not_gts : (w a c : ℕ) → 1 ≤ w → c < 2 ^ w → (c + 1 ≡ 2 ^ (w - 1) → ⊥) → apply2_of Lts w a ((c + 1) % 2 ^ w) ≡ 1 - apply2_of Lts w c a
not_gts w a c g lt ne =
    lts_shifted w a ((c + 1) % 2 ^ w) g ∙ ap (λ n. bit_of (nat_lt (shifted w a) n)) (after (sign_cases w c))
    ∙ not_gtu w (shifted w a) (shifted w c) ∙ ap (λ n. 1 - n) (sym (lts_shifted w c a g))
  where
    d : 2 ^ w ≡ 2 ^ (w - 1) + 2 ^ (w - 1)
    d = double_half w g

    after : ((is_negative_of w c ≡ true) × (2 ^ (w - 1) ≤ c)) ⊎ ((is_negative_of w c ≡ false) × (c < 2 ^ (w - 1))) → shifted w ((c + 1) % 2 ^ w) ≡ shifted w c + 1
    after (inl s) =
        let f = shifted_high w c s.1 in
        elim (cases_lt (c + 1) (2 ^ w)) as (λ _. shifted w ((c + 1) % 2 ^ w) ≡ shifted w c + 1) [
          | inl l ↦ (let high : 2 ^ (w - 1) ≤ c + 1 = omega (arith, s.1) in
              let k : c + 1 - 2 ^ (w - 1) ≡ shifted w c + 1 = omega (arith, f, s.1) in
              ap (shifted w) (mod-eq_of_lt l) ∙ shifted_high w (c + 1) high ∙ k)
          | inr l ↦ (let e : c + 1 ≡ 0 + 2 ^ w = omega (arith, l, lt) in
              let z : 0 < 2 ^ w = pow_pos w in
              let k : 2 ^ (w - 1) ≡ shifted w c + 1 = omega (arith, f, d, l, lt) in
              ap (λ n. shifted w (n % 2 ^ w)) e ∙ ap (shifted w) (add-mod_right 0 (2 ^ w) ∙ mod-eq_of_lt z) ∙ shifted_zero w ∙ k)
        ]
    after (inr s) =
        let f = shifted_small w c s.1 in
        let low : c + 1 < 2 ^ (w - 1) = omega (arith, s.1, ne) in
        let l : c + 1 < 2 ^ w = omega (arith, low, d) in
        let k : c + 1 + 2 ^ (w - 1) ≡ shifted w c + 1 = omega (arith, f) in
        ap (shifted w) (mod-eq_of_lt l) ∙ shifted_small w (c + 1) low ∙ k

-- not a slt 0 is ~a slt 0
pub not_negative : (w a : ℕ) → 1 ≤ w → a < 2 ^ w → apply2_of Lts w (apply1_of Not w a) 0 ≡ 1 - apply2_of Lts w a 0
not_negative w a g lt =
    let l : 2 ^ w - 1 - a < 2 ^ w = omega (arith, lt) in
    let d = double_half w g in
    lts_top w (2 ^ w - 1 - a) g l
    ∙ elim (sign_cases w a) as (λ _. bit_of (is_negative_of w (2 ^ w - 1 - a)) ≡ 1 - bit_of (is_negative_of w a)) [
      | inl s ↦ (let low : 2 ^ w - 1 - a < 2 ^ (w - 1) = omega (arith, d, s.1, pow_pos (w - 1)) in
          ap bit_of (lt-leb (2 ^ (w - 1)) (2 ^ w - 1 - a) low) ∙ sym (ap (λ t. 1 - bit_of t) s.0))
      | inr s ↦ (let high : 2 ^ (w - 1) ≤ 2 ^ w - 1 - a = omega (arith, d, s.1) in
          ap bit_of (le-leb (2 ^ (w - 1)) (2 ^ w - 1 - a) high) ∙ sym (ap (λ t. 1 - bit_of t) s.0))
    ]
    ∙ ap (λ n. 1 - n) (sym (lts_top w a g lt))

-- one bit of a number, in its place
pub bit_in_place : (a k : ℕ) → bit_and a (2 ^ k) ≡ slice_of a k k * 2 ^ k
bit_in_place a k =
    let e : a ≡ a / 2 ^ k * 2 ^ k + a % 2 ^ k = sym (Rattle.std.proofs.lemmas.Nat.div-add-mod' a (2 ^ k)) in
    let f : 2 ^ k ≡ 1 * 2 ^ k + 0 = omega arith in
    let n : k + 1 - k ≡ 1 = omega arith in
    let m : bit_and (a / 2 ^ k) 1 ≡ a / 2 ^ k % 2 ^ (k + 1 - k) = and_mask (a / 2 ^ k) 1 ∙ ap (λ j. a / 2 ^ k % 2 ^ j) (sym n) in
    let z : bit_and (a / 2 ^ k) 1 * 2 ^ k + 0 ≡ bit_and (a / 2 ^ k) 1 * 2 ^ k = omega arith in
    (λ j. bit_and (e j) (f j)) ∙ and_block (k) (a / 2 ^ k) 1 (a % 2 ^ k) 0 (mod-lt a (pow_pos k)) (pow_pos k)
    ∙ ap (λ x. bit_and (a / 2 ^ k) 1 * 2 ^ k + x) (and_zero_r (a % 2 ^ k)) ∙ z ∙ ap (λ x. x * 2 ^ k) m

-- whether a bit is 0, by its number
bit_zero : (v k : ℕ) → v < 2 → bit_of (v * 2 ^ k == 0) ≡ 1 - v
bit_zero v k h = elim (cases_lt 0 v) as (λ _. bit_of (v * 2 ^ k == 0) ≡ 1 - v) [
  | inl l ↦ (let one : v ≡ 1 = omega (arith, l, h) in
      let e : 1 * 2 ^ k ≡ 2 ^ k = omega arith in
      ap (λ n. bit_of (n * 2 ^ k == 0)) one ∙ ap bit_of (ne_eqb (1 * 2 ^ k) 0 (λ z. absurd (omega (arith, z, e, pow_pos k)))) ∙ sym (ap (λ n. 1 - n) one))
  | inr l ↦ (let none : v ≡ 0 = omega (arith, l) in
      let e : 0 * 2 ^ k ≡ 0 = omega arith in
      ap (λ n. bit_of (n * 2 ^ k == 0)) none ∙ ap bit_of (eq-eqb (0 * 2 ^ k) 0 e) ∙ sym (ap (λ n. 1 - n) none))
]

slice_bit_below : (a k : ℕ) → slice_of a k k < 2
slice_bit_below a k =
    let n : k + 1 - k ≡ 1 = omega arith in
    subst (λ j. a / 2 ^ k % 2 ^ j < 2) (sym n) (mod_below (a / 2 ^ k) (2 ^ 1) (pow_pos 1))

pub bit_test : (w a k : ℕ) → apply2_of Eq w (apply2_of And w a (2 ^ k)) 0 ≡ 1 - slice_of a k k
bit_test w a k = ap (λ n. bit_of (n == 0)) (bit_in_place a k) ∙ bit_zero (slice_of a k k) k (slice_bit_below a k)

-- not a slt 0 is (a & h) == 0, with h the top bit alone
pub not_sign : (w a : ℕ) → 1 ≤ w → a < 2 ^ w → apply2_of Eq w (apply2_of And w a (2 ^ (w - 1))) 0 ≡ 1 - apply2_of Lts w a 0
not_sign w a g lt = bit_test w a (w - 1) ∙ ap (λ n. 1 - n) (sym (lts_sign w a g lt))

-- not (a & 2^k) == 0 is a << (w - 1 - k) slt 0
pub not_bit : (w a k : ℕ) → 1 ≤ w → k < w → apply2_of Lts w (apply2_of Shl w a (w - 1 - k)) 0 ≡ 1 - apply2_of Eq w (apply2_of And w a (2 ^ k)) 0
not_bit w a k g h =
    let m : ℕ = w - 1 - k in
    let top : w - 1 < w = omega (arith, g) in
    let order : w - 1 - k ≤ w - 1 = omega arith in
    let same : w - 1 ≤ w - 1 = omega arith in
    let place : w - 1 - (w - 1 - k) ≡ k = omega (arith, h) in
    let v : ℕ = slice_of a k k in
    let l : slice_of a k k < 2 = slice_bit_below a k in
    let twice : slice_of a k k ≡ 1 - (1 - slice_of a k k) = omega (arith, l) in
    lts_sign w (apply2_of Shl w a (w - 1 - k)) g (shl_below w a (w - 1 - k))
    ∙ slice_shl w a (w - 1 - k) (w - 1) (w - 1) order same top
    ∙ ap (λ n. slice_of a n n) place ∙ twice ∙ ap (λ n. 1 - n) (sym (bit_test w a k))
  where
    shl_below : (w a j : ℕ) → apply2_of Shl w a j < 2 ^ w
    shl_below w a j = Rattle.rec_bits.proofs.Fits.cond_below (nat_lt j w) (a * 2 ^ j % 2 ^ w) 0 (2 ^ w) (mod_below (a * 2 ^ j) (2 ^ w) (pow_pos w)) (pow_pos w)
