-- slice-shift, shift-slice, shift-wide, shift-shift, zext-and.
use Rattle.std.proofs.lemmas.Bool.{cases_lt, lt-ltb, le-leb, lt-leb}
use Rattle.std.proofs.Common.{◌≡◌, ℕ, ◌+◌, ◌-◌, ◌*◌, ◌/◌, ◌%◌, ◌^◌, ◌<◌, ◌≤◌, sym, ◌∙◌, ap, arith, subst, Bool, true, false, cond, lit<, inl, inr}
use Rattle.std.proofs.Math.Nat.{mod-eq_of_lt, mul_assoc, div-add-mod, mod-lt, div-eq_of_lt-le, div-le_self, mul-div_cancel, mul-le-mul_left, pow-le-pow_right}
use Rattle.std.proofs.Math.Pow.{shr_lt, shr_mod}
use Rattle.std.proofs.lemmas.Nat.{shr-shr, and_mask, pow_pos, mul-mod_first, pow-add, mod_below, and_mod, or_mod, xor_mod, and_shr, or_shr, xor_shr}
use Rattle.rec_bits.specs.Operators.{apply2_of, slice_of, shr_of, is_negative_of, sext_of, sar_of}
use Rattle.rec_bits.specs.declared.operator.Op2.TheVariants.{And, Or, Xor, Shl, Shr, Sar}
use Rattle.tree_laws.proofs.Ring.{ring_not}
use Rattle.tree_laws.proofs.Low.{slice_low, low_low, pow_split, same_slice_of}

pub shr_is : (w a k : ℕ) → k < w → shr_of w a k ≡ a / 2 ^ k
shr_is w a k h = ap (λ t. cond t (a / 2 ^ k) 0) (lt-ltb k w h)

-- slice-shift with zeros
pub slice_shr : (w a k i j : ℕ) → j ≤ i → i + k < w → slice_of (apply2_of Shr w a k) i j ≡ slice_of a (i + k) (j + k)
slice_shr w a k i j p h =
    let s : k < w = omega arith in
    let e : i + 1 - j ≡ i + k + 1 - (j + k) = omega arith in
    let c : k + j ≡ j + k = omega arith in
    ap (λ n. n / 2 ^ j % 2 ^ (i + 1 - j)) (shr_is w a k s)
    ∙ ap (λ n. n % 2 ^ (i + 1 - j)) (shr-shr a k j ∙ ap (λ n. a / 2 ^ n) c)
    ∙ ap (λ n. a / 2 ^ (j + k) % 2 ^ n) e

-- shift-slice with zeros
pub shr_slice : (w a k : ℕ) → k < w → a < 2 ^ w → apply2_of Shr w a k ≡ slice_of a (w - 1) k
shr_slice w a k h lt =
    let e : w - k ≡ w - 1 + 1 - k = omega arith in
    let f : w ≡ w - k + k = omega arith in
    shr_is w a k h ∙ sym (shr_mod (w - k) k (subst (λ n. a < 2 ^ n) f lt)) ∙ ap (λ n. a / 2 ^ k % 2 ^ n) e

-- shift-wide with zeros
pub shr_wide : (w x a k : ℕ) → k < w → w ≤ x → a < 2 ^ w → apply2_of Shr w a k ≡ slice_of (apply2_of Shr x a k) (w - 1) 0
shr_wide w x a k h p lt =
    let f : w - 1 + 1 ≡ w = omega arith in
    let q : k < x = omega arith in
    let b : a / 2 ^ k < 2 ^ w = omega (arith, div-le_self a (2 ^ k), lt) in
    shr_is w a k h ∙ sym (slice_low (apply2_of Shr x a k) (w - 1) ∙ ap (λ n. apply2_of Shr x a k % 2 ^ n) f ∙ ap (λ n. n % 2 ^ w) (shr_is x a k q) ∙ mod-eq_of_lt b)

-- shift-shift
pub shr_shr : (w a j k : ℕ) → j + k < w → apply2_of Shr w (apply2_of Shr w a j) k ≡ apply2_of Shr w a (j + k)
shr_shr w a j k h =
    let p : j < w = omega arith in
    let q : k < w = omega arith in
    shr_is w (shr_of w a j) k q ∙ ap (λ n. n / 2 ^ k) (shr_is w a j p) ∙ shr-shr a j k ∙ sym (shr_is w a (j + k) h)

-- zext-and
pub and_slice : (w a k : ℕ) → apply2_of And w a (2 ^ (k + 1) - 1) ≡ slice_of a k 0
and_slice w a k = and_mask a (k + 1) ∙ sym (slice_low a k)

pub shl_is : (w a k : ℕ) → k < w → apply2_of Shl w a k ≡ a * 2 ^ k % 2 ^ w
shl_is w a k h = ap (λ t. cond t (a * 2 ^ k % 2 ^ w) 0) (lt-ltb k w h)

-- shift-shift to the left
pub shl_shl : (w a j k : ℕ) → j + k < w → apply2_of Shl w (apply2_of Shl w a j) k ≡ apply2_of Shl w a (j + k)
shl_shl w a j k h =
    let p : j < w = omega arith in
    let q : k < w = omega arith in
    shl_is w (apply2_of Shl w a j) k q ∙ ap (λ n. n * 2 ^ k % 2 ^ w) (shl_is w a j p)
    ∙ mul-mod_first (a * 2 ^ j) (2 ^ k) (2 ^ w) ∙ ap (λ n. n % 2 ^ w) (mul_assoc a (2 ^ j) (2 ^ k) ∙ ap (λ n. a * n) (sym (pow-add 2 j k)))
    ∙ sym (shl_is w a (j + k) h)

-- widen-shl
pub widen_shl : (w x a k : ℕ) → k < w → w ≤ x → apply2_of Shl x a k % 2 ^ w ≡ apply2_of Shl w (a % 2 ^ w) k
widen_shl w x a k h p =
    let q : k < x = omega arith in
    ap (λ n. n % 2 ^ w) (shl_is x a k q) ∙ low_low (a * 2 ^ k) x w p ∙ sym (mul-mod_first a (2 ^ k) (2 ^ w)) ∙ sym (shl_is w (a % 2 ^ w) k h)

-- the complement of a shifted number, at w bits, is the shifted complement with ones above
not_shr : (w a k : ℕ) → k < w → a < 2 ^ w → (2 ^ w - 1 - a) / 2 ^ k ≡ 2 ^ (w - k) - 1 - a / 2 ^ k
not_shr w a k h lt =
    let m : ℕ = 2 ^ k in
    let n : ℕ = 2 ^ (w - k) in
    let r : a % m < m = mod-lt a (pow_pos k) in
    let ea : a ≡ m * (a / m) + a % m = sym (div-add-mod a m) in
    let f : w ≡ w - k + k = omega arith in
    let top : a / m < n = shr_lt (w - k) k (subst (λ x. a < 2 ^ x) f lt) in
    let ep : 2 ^ w ≡ m * n = pow_split k w (omega arith) in
    let s : 2 ^ w - 1 - a ≡ (n - 1 - a / m) * m + (m - 1 - a % m) = parts m n (a / m) (a % m) (2 ^ w) a ep ea top r in
    let b : m - 1 - a % m < m = omega (arith, r) in
    ap (λ x. x / m) s ∙ mul-add-div (n - 1 - a / m) m (m - 1 - a % m) b
  where
    parts : (m n q r p x : ℕ) → p ≡ m * n → x ≡ m * q + r → q < n → r < m → p - 1 - x ≡ (n - 1 - q) * m + (m - 1 - r)
    parts m n q r p x e g h k =
        let d : ℕ = n - 1 - q in
        let en : n ≡ q + 1 + d = omega (arith, h) in
        let ep : p ≡ m * (q + 1 + d) = e ∙ ap (λ t. m * t) en in
        let eq : p ≡ m * q + m + d * m = omega (arith, ep) in
        omega (arith, eq, g, k)

    mul-add-div : (a m r : ℕ) → r < m → (a * m + r) / m ≡ a
    mul-add-div a m r l = div-eq_of_lt-le m (let t : a * m ≤ a * m + r = omega arith in t) (let t : a * m + r < (a + 1) * m = omega (arith, l) in t)

-- ---- to the right with copies of the top bit

-- the complement of a slice is the slice of the complement
pub slice_not : (w a i j : ℕ) → j ≤ i → i < w → a < 2 ^ w → slice_of (2 ^ w - 1 - a) i j ≡ 2 ^ (i + 1 - j) - 1 - slice_of a i j
slice_not w a i j p h lt =
    let k : ℕ = i + 1 - j in
    let s : j < w = omega arith in
    let f : w ≡ w - j + j = omega arith in
    let top : a / 2 ^ j < 2 ^ (w - j) = shr_lt (w - j) j (subst (λ n. a < 2 ^ n) f lt) in
    let le : k ≤ w - j = omega arith in
    ap (λ n. n % 2 ^ k) (not_shr w a j s lt) ∙ ring_not (w - j) k (a / 2 ^ j) le top

-- slice-shift with copies of the top bit
pub slice_sar : (w a k i j : ℕ) → j ≤ i → i + k < w → a < 2 ^ w → slice_of (apply2_of Sar w a k) i j ≡ slice_of a (i + k) (j + k)
slice_sar w a k i j p h lt = by (is_negative_of w a)
  where
    b : 2 ^ w - 1 - a < 2 ^ w
    b = omega (arith, lt)

    low : i < w
    low = omega arith

    inner : shr_of w (2 ^ w - 1 - a) k < 2 ^ w
    inner =
        let kw : k < w = omega arith in
        let l : (2 ^ w - 1 - a) / 2 ^ k < 2 ^ w = omega (arith, div-le_self (2 ^ w - 1 - a) (2 ^ k), b) in
        subst (λ n. n < 2 ^ w) (sym (shr_is w (2 ^ w - 1 - a) k kw)) l

    jk : j + k ≤ i + k
    jk = omega arith

    e : i + k + 1 - (j + k) ≡ i + 1 - j
    e = omega arith

    last : slice_of a (i + k) (j + k) < 2 ^ (i + 1 - j)
    last = subst (λ n. slice_of a (i + k) (j + k) < 2 ^ n) e (mod_below (a / 2 ^ (j + k)) (2 ^ (i + k + 1 - (j + k))) (pow_pos (i + k + 1 - (j + k))))

    twice : (m x : ℕ) → x < m → m - 1 - (m - 1 - x) ≡ x
    twice m x l = omega (arith, l)

    by : (t : Bool) → slice_of (cond t (2 ^ w - 1 - shr_of w (2 ^ w - 1 - a) k) (shr_of w a k)) i j ≡ slice_of a (i + k) (j + k)
    by true =
        slice_not w (shr_of w (2 ^ w - 1 - a) k) i j p low inner
        ∙ ap (λ n. 2 ^ (i + 1 - j) - 1 - n) (slice_shr w (2 ^ w - 1 - a) k i j p h ∙ slice_not w a (i + k) (j + k) jk h lt)
        ∙ ap (λ n. 2 ^ (i + 1 - j) - 1 - (2 ^ n - 1 - slice_of a (i + k) (j + k))) e
        ∙ twice (2 ^ (i + 1 - j)) (slice_of a (i + k) (j + k)) last
    by false = slice_shr w a k i j p h

-- slice-bitwise
pub slice_and : (w a b i j : ℕ) → slice_of (apply2_of And w a b) i j ≡ apply2_of And (i + 1 - j) (slice_of a i j) (slice_of b i j)
slice_and w a b i j = ap (λ n. n % 2 ^ (i + 1 - j)) (and_shr a b j) ∙ and_mod (a / 2 ^ j) (b / 2 ^ j) (i + 1 - j)

pub slice_or : (w a b i j : ℕ) → slice_of (apply2_of Or w a b) i j ≡ apply2_of Or (i + 1 - j) (slice_of a i j) (slice_of b i j)
slice_or w a b i j = ap (λ n. n % 2 ^ (i + 1 - j)) (or_shr a b j) ∙ or_mod (a / 2 ^ j) (b / 2 ^ j) (i + 1 - j)

pub slice_xor : (w a b i j : ℕ) → slice_of (apply2_of Xor w a b) i j ≡ apply2_of Xor (i + 1 - j) (slice_of a i j) (slice_of b i j)
slice_xor w a b i j = ap (λ n. n % 2 ^ (i + 1 - j)) (xor_shr a b j) ∙ xor_mod (a / 2 ^ j) (b / 2 ^ j) (i + 1 - j)

-- zext-shr
pub zext_shr : (w x a k : ℕ) → k < w → w ≤ x → apply2_of Shr x a k ≡ apply2_of Shr w a k
zext_shr w x a k h p = let q : k < x = omega arith in shr_is x a k q ∙ sym (shr_is w a k h)

-- slice-shl
pub slice_shl : (w a k i j : ℕ) → k ≤ j → j ≤ i → i < w → slice_of (apply2_of Shl w a k) i j ≡ slice_of a (i - k) (j - k)
slice_shl w a k i j h p q =
    let s : k < w = omega arith in
    let e : k + (j - k) ≡ j = omega arith in
    let f : i + 1 - j ≡ i - k + 1 - (j - k) = omega arith in
    let pos : 0 < 2 ^ k = pow_pos k in
    let back : a * 2 ^ k / 2 ^ j ≡ a / 2 ^ (j - k) = ap (λ n. a * 2 ^ k / 2 ^ n) (sym e) ∙ sym (shr-shr (a * 2 ^ k) k (j - k)) ∙ ap (λ n. n / 2 ^ (j - k)) (mul-div_cancel a pos) in
    same_slice_of (apply2_of Shl w a k) (a * 2 ^ k) w i j p q (ap (λ n. n % 2 ^ w) (shl_is w a k s) ∙ low_low (a * 2 ^ k) w w (omega arith))
    ∙ ap (λ n. n % 2 ^ (i + 1 - j)) back ∙ ap (λ n. a / 2 ^ (j - k) % 2 ^ n) f

quotient_below : (m n q r a : ℕ) → a ≡ m * q + r → a < m * n → q < n
quotient_below m n q r a e lt = elim (cases_lt q n) [ inl l ↦ l | inr g ↦ absurd (omega (arith, mul-le-mul_left m g, e, lt)) ]

quotient_above : (m n q r a : ℕ) → a ≡ m * q + r → r < m → m * n ≤ a → n ≤ q
quotient_above m n q r a e k ge =
    elim (cases_lt q n) [
      | inl l ↦ absurd (let s : q + 1 ≤ n = omega (arith, l) in let t : m * (q + 1) ≤ m * n = mul-le-mul_left m s in omega (arith, t, e, k, ge))
      | inr g ↦ g
    ]

-- shift-slice with copies of the top bit
pub sar_slice : (w a k : ℕ) → k < w → a < 2 ^ w → apply2_of Sar w a k ≡ sext_of (slice_of a (w - 1) k) (w - k) w
sar_slice w a k h lt =
    let m : ℕ = 2 ^ k in
    let n : ℕ = 2 ^ (w - k) in
    let q : ℕ = a / m in
    let r : a % m < m = mod-lt a (pow_pos k) in
    let ea : a ≡ m * q + a % m = sym (div-add-mod a m) in
    let f : w ≡ w - k + k = omega arith in
    let top : q < n = shr_lt (w - k) k (subst (λ x. a < 2 ^ x) f lt) in
    let le : n ≤ 2 ^ w = pow-le-pow_right (lit< tt) (omega arith) in
    let g : w - 1 - k ≡ w - k - 1 = omega arith in
    let half : 2 ^ (w - 1) ≡ m * 2 ^ (w - k - 1) = pow_split k (w - 1) (omega arith) ∙ ap (λ x. m * 2 ^ x) g in
    let sl : slice_of a (w - 1) k ≡ q = sym (shr_slice w a k h lt) ∙ shr_is w a k h in
    let b : 2 ^ w - 1 - a < 2 ^ w = omega (arith, lt) in
    elim (cases_lt a (2 ^ (w - 1))) as (λ _. sar_of w a k ≡ sext_of (slice_of a (w - 1) k) (w - k) w) [
      | inl l ↦ (let low : q < 2 ^ (w - k - 1) = quotient_below m (2 ^ (w - k - 1)) q (a % m) a ea (subst (λ x. a < x) half l) in
          ap (λ t. cond t (2 ^ w - 1 - shr_of w (2 ^ w - 1 - a) k) (shr_of w a k)) (lt-leb (2 ^ (w - 1)) a l) ∙ shr_is w a k h
          ∙ sym (ap (λ x. sext_of x (w - k) w) sl ∙ ap (λ t. cond t (q + (2 ^ w - n)) q) (lt-leb (2 ^ (w - k - 1)) q low)))
      | inr l ↦ (let high : 2 ^ (w - k - 1) ≤ q = quotient_above m (2 ^ (w - k - 1)) q (a % m) a ea r (subst (λ x. x ≤ a) half l) in
          let sum : 2 ^ w - 1 - (n - 1 - q) ≡ q + (2 ^ w - n) = omega (arith, top, le) in
          ap (λ t. cond t (2 ^ w - 1 - shr_of w (2 ^ w - 1 - a) k) (shr_of w a k)) (le-leb (2 ^ (w - 1)) a l)
          ∙ ap (λ x. 2 ^ w - 1 - x) (shr_is w (2 ^ w - 1 - a) k h ∙ not_shr w a k h lt) ∙ sum
          ∙ sym (ap (λ x. sext_of x (w - k) w) sl ∙ ap (λ t. cond t (q + (2 ^ w - n)) q) (le-leb (2 ^ (w - k - 1)) q high)))
    ]
