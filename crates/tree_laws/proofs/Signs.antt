-- Top bits: extensions with copies of the top bit and shifts to the right, by what the top bit is.
use Rattle.std.proofs.Common.{lit<, ◌≡◌, ℕ, ◌+◌, ◌-◌, ◌*◌, ◌/◌, ◌%◌, ◌^◌, ◌<◌, ◌≤◌, true, false, cond, inl, inr, ◌⊎◌, sym, ◌∙◌, ap, arith, subst}
use Rattle.std.proofs.Math.Nat.{mod-eq_of_lt, div-le_self, pow-le-pow_right, add-mul-mod_self_left}
use Rattle.std.proofs.lemmas.Bool.{cases_lt, le-leb, lt-leb}
use Rattle.std.proofs.lemmas.Nat.{pow_pos, shr-shr, and_mask}
use Rattle.rec_bits.specs.Operators.{apply2_of, is_negative_of, sar_of, sext_of, shr_of, slice_of}
use Rattle.rec_bits.specs.declared.operator.Op2.TheVariants.{And, Mul, Shr}
use Rattle.rec_bits.proofs.Bits.{double_half}
use Rattle.tree_laws.proofs.Low.{slice_low, pow_split, sext_low}
use Rattle.tree_laws.proofs.Shifts.{shr_is, shr_slice, slice_sar, slice_shl}
use Rattle.tree_laws.proofs.Units.{mul_shl}

-- ---- powers

pub power_up : (i j : ℕ) → i ≤ j → 2 ^ i ≤ 2 ^ j
power_up i j h = pow-le-pow_right (lit< tt) h

-- ---- the top bit

-- whether the top bit is 1, with what that says
pub sign_cases : (w a : ℕ) → ((is_negative_of w a ≡ true) × (2 ^ (w - 1) ≤ a)) ⊎ ((is_negative_of w a ≡ false) × (a < 2 ^ (w - 1)))
sign_cases w a = elim (cases_lt a (2 ^ (w - 1))) [
  | inl l ↦ inr (lt-leb (2 ^ (w - 1)) a l, l)
  | inr g ↦ inl (le-leb (2 ^ (w - 1)) a g, g)
]

pub sext_high : (w x a : ℕ) → 2 ^ (w - 1) ≤ a → sext_of a w x ≡ a + (2 ^ x - 2 ^ w)
sext_high w x a h = ap (λ t. cond t (a + (2 ^ x - 2 ^ w)) a) (le-leb (2 ^ (w - 1)) a h)

pub sext_small : (w x a : ℕ) → a < 2 ^ (w - 1) → sext_of a w x ≡ a
sext_small w x a h = ap (λ t. cond t (a + (2 ^ x - 2 ^ w)) a) (lt-leb (2 ^ (w - 1)) a h)

pub sar_high : (w a k : ℕ) → k < w → 2 ^ (w - 1) ≤ a → sar_of w a k ≡ 2 ^ w - 1 - (2 ^ w - 1 - a) / 2 ^ k
sar_high w a k h g =
    ap (λ t. cond t (2 ^ w - 1 - shr_of w (2 ^ w - 1 - a) k) (shr_of w a k)) (le-leb (2 ^ (w - 1)) a g)
    ∙ ap (λ n. 2 ^ w - 1 - n) (shr_is w (2 ^ w - 1 - a) k h)

pub sar_small : (w a k : ℕ) → k < w → a < 2 ^ (w - 1) → sar_of w a k ≡ a / 2 ^ k
sar_small w a k h l =
    ap (λ t. cond t (2 ^ w - 1 - shr_of w (2 ^ w - 1 - a) k) (shr_of w a k)) (lt-leb (2 ^ (w - 1)) a l) ∙ shr_is w a k h

-- ---- slice-ext: a slice that ends past the number
pub slice_zext_past : (a w i : ℕ) → w ≤ i → a < 2 ^ w → slice_of a i 0 ≡ a
slice_zext_past a w i h lt =
    let p : 2 ^ w ≤ 2 ^ (i + 1) = power_up w (i + 1) (omega (arith, h)) in
    let l : a < 2 ^ (i + 1) = omega (arith, p, lt) in
    slice_low a i ∙ mod-eq_of_lt l

pub slice_sext_past : (a w x i : ℕ) → 1 ≤ w → w ≤ i → i < x → a < 2 ^ w → slice_of (sext_of a w x) i 0 ≡ sext_of a w (i + 1)
slice_sext_past a w x i g h k lt = slice_low (sext_of a w x) i ∙ by (sign_cases w a)
  where
    p : 2 ^ w ≤ 2 ^ (i + 1)
    p = power_up w (i + 1) (omega (arith, h))

    by : ((is_negative_of w a ≡ true) × (2 ^ (w - 1) ≤ a)) ⊎ ((is_negative_of w a ≡ false) × (a < 2 ^ (w - 1))) → sext_of a w x % 2 ^ (i + 1) ≡ sext_of a w (i + 1)
    by (inr s) =
        let l : a < 2 ^ (i + 1) = omega (arith, p, lt) in
        ap (λ n. n % 2 ^ (i + 1)) (sext_small w x a s.1) ∙ mod-eq_of_lt l ∙ sym (sext_small w (i + 1) a s.1)
    by (inl s) =
        let m : ℕ = 2 ^ (i + 1) in
        let q : ℕ = 2 ^ (x - (i + 1)) in
        let e : 2 ^ x ≡ m * q = pow_split (i + 1) x (omega (arith, k)) in
        let l : a + (m - 2 ^ w) < m = omega (arith, p, lt) in
        ap (λ n. n % m) (sext_high w x a s.1 ∙ over m (2 ^ w) (2 ^ x) q e p (pow_pos (x - (i + 1))))
        ∙ add-mul-mod_self_left (a + (m - 2 ^ w)) m (q - 1) ∙ mod-eq_of_lt l ∙ sym (sext_high w (i + 1) a s.1)
      where
        split_one : (m q : ℕ) → 0 < q → m * q ≡ m + m * (q - 1)
        split_one m q pos =
            let d : q ≡ q - 1 + 1 = omega (arith, pos) in
            let f : m * (q - 1 + 1) ≡ m + m * (q - 1) = omega arith in
            ap (λ n. m * n) d ∙ f

        over : (m n r q : ℕ) → r ≡ m * q → n ≤ m → 0 < q → a + (r - n) ≡ a + (m - n) + m * (q - 1)
        over m n r q e le pos =
            let t : m * q ≡ m + m * (q - 1) = split_one m q pos in
            omega (arith, e, t, le)

-- ---- sext-sar
pub sext_sar : (w x a k : ℕ) → 1 ≤ w → w ≤ x → k < w → a < 2 ^ w → sext_of (sar_of w a k) w x ≡ sar_of x (sext_of a w x) k
sext_sar w x a k g h kw lt = by (sign_cases w a)
  where
    d : 2 ^ w ≡ 2 ^ (w - 1) + 2 ^ (w - 1)
    d = double_half w g

    dx : 2 ^ x ≡ 2 ^ (x - 1) + 2 ^ (x - 1)
    dx = double_half x (omega (arith, g, h))

    up : 2 ^ w ≤ 2 ^ x
    up = power_up w x h

    up_half : 2 ^ (w - 1) ≤ 2 ^ (x - 1)
    up_half = power_up (w - 1) (x - 1) (omega (arith, h))

    kx : k < x
    kx = omega (arith, kw, h)

    by : ((is_negative_of w a ≡ true) × (2 ^ (w - 1) ≤ a)) ⊎ ((is_negative_of w a ≡ false) × (a < 2 ^ (w - 1))) → sext_of (sar_of w a k) w x ≡ sar_of x (sext_of a w x) k
    by (inr s) =
        let low : a / 2 ^ k < 2 ^ (w - 1) = omega (arith, div-le_self a (2 ^ k), s.1) in
        let lowx : a < 2 ^ (x - 1) = omega (arith, s.1, up_half) in
        ap (λ n. sext_of n w x) (sar_small w a k kw s.1) ∙ sext_small w x (a / 2 ^ k) low
        ∙ sym (ap (λ n. sar_of x n k) (sext_small w x a s.1) ∙ sar_small x a k kx lowx)
    by (inl s) =
        let b : ℕ = 2 ^ w - 1 - a in
        let c : ℕ = b / 2 ^ k in
        let cb : c ≤ b = div-le_self b (2 ^ k) in
        let high : 2 ^ (w - 1) ≤ 2 ^ w - 1 - c = omega (arith, cb, s.1, d, lt) in
        let highx : 2 ^ (x - 1) ≤ a + (2 ^ x - 2 ^ w) = omega (arith, dx, d, up, up_half, s.1) in
        let flip : 2 ^ x - 1 - (a + (2 ^ x - 2 ^ w)) ≡ b = omega (arith, up, lt) in
        let sum : 2 ^ w - 1 - c + (2 ^ x - 2 ^ w) ≡ 2 ^ x - 1 - c = omega (arith, up, cb, lt) in
        ap (λ n. sext_of n w x) (sar_high w a k kw s.1) ∙ sext_high w x (2 ^ w - 1 - c) high ∙ sum
        ∙ sym (ap (λ n. sar_of x n k) (sext_high w x a s.1) ∙ sar_high x (a + (2 ^ x - 2 ^ w)) k kx highx ∙ ap (λ n. 2 ^ x - 1 - n / 2 ^ k) flip)

-- shift-shift with copies of the top bit
pub sar_sar : (w a j k : ℕ) → 1 ≤ w → j + k < w → a < 2 ^ w → sar_of w (sar_of w a j) k ≡ sar_of w a (j + k)
sar_sar w a j k g h lt = by (sign_cases w a)
  where
    d : 2 ^ w ≡ 2 ^ (w - 1) + 2 ^ (w - 1)
    d = double_half w g

    jw : j < w
    jw = omega (arith, h)

    kw : k < w
    kw = omega (arith, h)

    by : ((is_negative_of w a ≡ true) × (2 ^ (w - 1) ≤ a)) ⊎ ((is_negative_of w a ≡ false) × (a < 2 ^ (w - 1))) → sar_of w (sar_of w a j) k ≡ sar_of w a (j + k)
    by (inr s) =
        let low : a / 2 ^ j < 2 ^ (w - 1) = omega (arith, div-le_self a (2 ^ j), s.1) in
        ap (λ n. sar_of w n k) (sar_small w a j jw s.1) ∙ sar_small w (a / 2 ^ j) k kw low ∙ shr-shr a j k ∙ sym (sar_small w a (j + k) h s.1)
    by (inl s) =
        let b : ℕ = 2 ^ w - 1 - a in
        let c : ℕ = b / 2 ^ j in
        let cb : c ≤ b = div-le_self b (2 ^ j) in
        let high : 2 ^ (w - 1) ≤ 2 ^ w - 1 - c = omega (arith, cb, s.1, d, lt) in
        let flip : 2 ^ w - 1 - (2 ^ w - 1 - c) ≡ c = omega (arith, cb, lt) in
        ap (λ n. sar_of w n k) (sar_high w a j jw s.1) ∙ sar_high w (2 ^ w - 1 - c) k kw high
        ∙ ap (λ n. 2 ^ w - 1 - n / 2 ^ k) flip ∙ ap (λ n. 2 ^ w - 1 - n) (shr-shr b j k) ∙ sym (sar_high w a (j + k) h s.1)

-- shift-wide with copies of the top bit
pub sar_wide : (w x a k : ℕ) → 1 ≤ w → w ≤ x → k < w → a < 2 ^ w → slice_of (sar_of x (sext_of a w x) k) (w - 1) 0 ≡ sar_of w a k
sar_wide w x a k g h kw lt =
    let e : w - 1 + 1 ≡ w = omega (arith, g) in
    let le : sar_of w a k < 2 ^ w = sar_below w a k g kw lt in
    ap (λ n. slice_of n (w - 1) 0) (sym (sext_sar w x a k g h kw lt))
    ∙ slice_low (sext_of (sar_of w a k) w x) (w - 1) ∙ ap (λ n. sext_of (sar_of w a k) w x % 2 ^ n) e
    ∙ sext_low (sar_of w a k) w x h ∙ mod-eq_of_lt le
  where
    sar_below : (w a k : ℕ) → 1 ≤ w → k < w → a < 2 ^ w → sar_of w a k < 2 ^ w
    sar_below w a k g kw lt = elim (sign_cases w a) [
      | inl s ↦ subst (λ n. n < 2 ^ w) (sym (sar_high w a k kw s.1)) (omega (arith, pow_pos w))
      | inr s ↦ subst (λ n. n < 2 ^ w) (sym (sar_small w a k kw s.1)) (omega (arith, div-le_self a (2 ^ k), lt))
    ]

-- shr-sar: without its copies of the top bit a shifted number is the same
pub shr_sar : (w a k : ℕ) → k < w → a < 2 ^ w → apply2_of Shr w a k ≡ apply2_of And w (sar_of w a k) (2 ^ (w - k) - 1)
shr_sar w a k h lt =
    let i : ℕ = w - 1 - k in
    let e : w - 1 - k + 1 ≡ w - k = omega (arith, h) in
    let f : w - 1 - k + k ≡ w - 1 = omega (arith, h) in
    let z : 0 + k ≡ k = omega arith in
    let inside : w - 1 - k + k < w = omega (arith, h) in
    let order : 0 ≤ w - 1 - k = omega arith in
    shr_slice w a k h lt
    ∙ sym (and_mask (sar_of w a k) (w - k) ∙ ap (λ n. sar_of w a k % 2 ^ n) (sym e) ∙ sym (slice_low (sar_of w a k) (w - 1 - k))
    ∙ slice_sar w a k (w - 1 - k) 0 order inside lt ∙ ap (λ n. slice_of a n (0 + k)) f ∙ ap (slice_of a (w - 1)) z)

-- sar-mul: the high half of a product with a power of 2
pub sar_mul : (w x a k : ℕ) → 1 ≤ w → 2 * w ≤ x + 1 → k < w → a < 2 ^ w
    → sar_of w a k ≡ slice_of (apply2_of Mul x (sext_of a w x) (2 ^ (w - 1 - k))) (2 * w - 2) (w - 1)
sar_mul w x a k g h kw lt =
    let m : ℕ = w - 1 - k in
    let wx : w ≤ x = omega (arith, g, h) in
    let big : ℕ = sext_of a w x in
    let bigger : sext_of a w x < 2 ^ x = Rattle.rec_bits.proofs.Fits.sext_below a w x wx lt in
    let mx : w - 1 - k < x = omega (arith, g, h) in
    let mj : w - 1 - k ≤ w - 1 = omega arith in
    let ji : w - 1 ≤ 2 * w - 2 = omega (arith, g) in
    let ix : 2 * w - 2 < x = omega (arith, g, h) in
    let hi : 2 * w - 2 - (w - 1 - k) ≡ w - 1 + k = omega (arith, g, kw) in
    let lo : w - 1 - (w - 1 - k) ≡ 0 + k = omega (arith, g, kw) in
    let inside : w - 1 + k < x = omega (arith, g, h, kw) in
    let order : 0 ≤ w - 1 = omega arith in
    sym (sar_wide w x a k g wx kw lt) ∙ slice_sar x (sext_of a w x) k (w - 1) 0 order inside bigger
    ∙ sym (ap (λ n. slice_of n (2 * w - 2) (w - 1)) (mul_shl x (sext_of a w x) (w - 1 - k) mx)
    ∙ slice_shl x (sext_of a w x) (w - 1 - k) (2 * w - 2) (w - 1) mj ji ix
    ∙ ap (λ n. slice_of (sext_of a w x) n (w - 1 - (w - 1 - k))) hi ∙ ap (slice_of (sext_of a w x) (w - 1 + k)) lo)

-- unit: a shift by 0 with copies of the top bit
pub sar_zero : (w a : ℕ) → 1 ≤ w → a < 2 ^ w → sar_of w a 0 ≡ a
sar_zero w a g lt = elim (sign_cases w a) as (λ _. sar_of w a 0 ≡ a) [
  | inl s ↦ (let e : 2 ^ w - 1 - (2 ^ w - 1 - a) / 2 ^ 0 ≡ a = omega (arith, lt) in sar_high w a 0 g s.1 ∙ e)
  | inr s ↦ (let e : a / 2 ^ 0 ≡ a = omega arith in sar_small w a 0 g s.1 ∙ e)
]
