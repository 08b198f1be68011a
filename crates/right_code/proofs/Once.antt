-- No instruction bit occurs twice in an expression that is linear.
use Rattle.std.proofs.Common.{◌≡◌, ℕ, ◌+◌, ◌<◌, ◌≤◌, ◌||◌, ◌&&◌, ◌⊎◌, inl, inr, nat_le, bit_and, bit_or, Bool, true, false, refl, sym, ap, ◌∙◌, arith}
use Rattle.std.specs.Int.{bit_at}
use Rattle.std.proofs.lemmas.Bool.{true≢false, eqb-true, leb-true, and_parts}
use Rattle.std.proofs.lemmas.Nat.{and_comm}
use Rattle.std.proofs.lemmas.Nat.Bits.{bit_at-zero, bit_at-lt, bit_at_ones, bit_at_mask_inside, bit_at_and, bit_at_or, same_from_bits as bit_same}
use Rattle.rec_bits.proofs.Booleans.{or_cases}
use Rattle.net_model.specs.Fields.{fields}
use Rattle.net_model.specs.Occurs.{registers}
use Rattle.net_model.specs.Exprs.{ExprModel, word, reg, const, read, un, bin, slice, cat, zext, sext, select}
use Rattle.form_set.specs.Inner.Linear.{are_apart, is_linear, meet_in}
use Rattle.form_model.specs.Bits.{uses}
use Rattle.emit_seq.specs.Formed.{BitsApart, IsOnce}
use Rattle.emit_seq.proofs.BitUnions.{zero_left}
use Rattle.right_code.proofs.Swapping.{is_word}

-- instruction words have this many bits, and slices of them lie in it
abbrev pub WordsIn : ℕ → ExprModel → Type 0
WordsIn n (word w) = w ≡ n
WordsIn n (reg r w) = Unit {0}
WordsIn n (const w v) = Unit {0}
WordsIn n (read space a w) = WordsIn n a
WordsIn n (un o a) = WordsIn n a
WordsIn n (bin o a b) = WordsIn n a × WordsIn n b
WordsIn n (slice a hi lo) = WordsIn n a × (is_word a ≡ true → (lo ≤ hi) × (hi < n))
WordsIn n (cat a b) = WordsIn n a × WordsIn n b
WordsIn n (zext a w) = WordsIn n a
WordsIn n (sext a w) = WordsIn n a
WordsIn n (select c a b) = WordsIn n c × WordsIn n a × WordsIn n b

-- a bit that occurs is in the mask, or the whole word is
abbrev Occurs : ℕ → ℕ → ℕ → Type 0
Occurs n mask k = ((k < n) × (bit_at mask k ≡ 1)) ⊎ ((j : ℕ) → j < n → bit_at mask j ≡ 1)

left_occurs : (n a b k : ℕ) → Occurs n a k → Occurs n (bit_or a b) k
left_occurs n a b k (inl h) = inl (h.0, let q = h.1 in omega (arith, bit_at_or a b k, q, bit_at-lt b k))
left_occurs n a b k (inr h) = inr (λ j l. let q : bit_at a j ≡ 1 = h j l in omega (arith, bit_at_or a b j, q, bit_at-lt b j))

right_occurs : (n a b k : ℕ) → Occurs n b k → Occurs n (bit_or a b) k
right_occurs n a b k (inl h) = inl (h.0, let q = h.1 in omega (arith, bit_at_or a b k, q, bit_at-lt a k))
right_occurs n a b k (inr h) = inr (λ j l. let q : bit_at b j ≡ 1 = h j l in omega (arith, bit_at_or a b j, q, bit_at-lt a j))

occurs : (n : ℕ) (t : ExprModel) → WordsIn n t → (k : ℕ) → uses t k ≡ true → Occurs n (fields t) k
occurs n (word w) f k u = inr (λ j l. bit_at_ones w j (omega (arith, f, l)))
occurs n (reg r w) f k u = absurd (true≢false (sym u))
occurs n (const w v) f k u = absurd (true≢false (sym u))
occurs n (read space a w) f k u = occurs n a f k u
occurs n (un o a) f k u = occurs n a f k u
occurs n (bin o a b) f k u =
    elim (or_cases (uses a k) (uses b k) u) as (λ _. Occurs n (bit_or (fields a) (fields b)) k) [
      | inl v ↦ left_occurs n (fields a) (fields b) k (occurs n a f.0 k v)
      | inr v ↦ right_occurs n (fields a) (fields b) k (occurs n b f.1 k v)
    ]
occurs n (slice (word w) hi lo) f k u =
    let p : (nat_le lo k ≡ true) × (nat_le k hi ≡ true) = and_parts _ _ u in
    let r : (lo ≤ hi) × (hi < n) = f.1 refl in
    let lk : lo ≤ k = leb-true lo k p.0 in
    let kh : k ≤ hi = leb-true k hi p.1 in
    inl (omega (arith, r.1, kh), bit_at_mask_inside lo (hi + 1) k lk (omega (arith, kh)))
occurs n (slice a hi lo) f k u = occurs n a f.0 k u
occurs n (cat a b) f k u =
    elim (or_cases (uses a k) (uses b k) u) as (λ _. Occurs n (bit_or (fields a) (fields b)) k) [
      | inl v ↦ left_occurs n (fields a) (fields b) k (occurs n a f.0 k v)
      | inr v ↦ right_occurs n (fields a) (fields b) k (occurs n b f.1 k v)
    ]
occurs n (zext a w) f k u = occurs n a f k u
occurs n (sext a w) f k u = occurs n a f k u
occurs n (select c a b) f k u =
    elim (or_cases (uses c k) (uses a k || uses b k) u) as (λ _. Occurs n (bit_or (bit_or (fields c) (fields a)) (fields b)) k) [
      | inl v ↦ left_occurs n (bit_or (fields c) (fields a)) (fields b) k (left_occurs n (fields c) (fields a) k (occurs n c f.0 k v))
      | inr v ↦ elim (or_cases (uses a k) (uses b k) v) as (λ _. Occurs n (bit_or (bit_or (fields c) (fields a)) (fields b)) k) [
        | inl x ↦ left_occurs n (bit_or (fields c) (fields a)) (fields b) k (right_occurs n (fields c) (fields a) k (occurs n a f.1 k x))
        | inr x ↦ right_occurs n (bit_or (fields c) (fields a)) (fields b) k (occurs n b f.2 k x)
      ]
    ]

-- masks without a common bit
pub apart_of : (n : ℕ) (a b : ExprModel) → 0 < n → WordsIn n a → WordsIn n b → bit_and (fields a) (fields b) ≡ 0 → BitsApart a b
apart_of n a b p fa fb e k u = no_use (uses b k) refl
  where
    none : (j : ℕ) → bit_at (fields a) j ≡ 1 → bit_at (fields b) j ≡ 1 → ⊥
    none j x y = let z : bit_at (bit_and (fields a) (fields b)) j ≡ 0 = ap (λ m. bit_at m j) e ∙ bit_at-zero j in omega (arith, bit_at_and (fields a) (fields b) j, x, y, z)

    clash : Occurs n (fields a) k → Occurs n (fields b) k → ⊥
    clash (inl x) (inl y) = none k x.1 y.1
    clash (inl x) (inr y) = none k x.1 (y k x.0)
    clash (inr x) (inl y) = none k (x k y.0) y.1
    clash (inr x) (inr y) = none 0 (x 0 p) (y 0 p)

    no_use : (c : Bool) → uses b k ≡ c → uses b k ≡ false
    no_use true q = absurd (clash (occurs n a fa k u) (occurs n b fb k q))
    no_use false q = q

-- expressions that are apart have no common bit
pub meet_none : (free : ℕ) (a b : ExprModel) → are_apart free a b ≡ true → bit_and (fields a) (fields b) ≡ 0
meet_none free a b h =
    let p : (meet_in free (registers a) (registers b) ≡ true) × (meet_in 0 (fields a) (fields b) ≡ true) = and_parts _ _ h in
    let q : bit_or (bit_and (fields a) (fields b)) 0 ≡ 0 = eqb-true _ 0 p.1 in
    bit_same (bit_and (fields a) (fields b)) 0 (λ i. let z : bit_at (bit_or (bit_and (fields a) (fields b)) 0) i ≡ 0 = ap (λ m. bit_at m i) q ∙ bit_at-zero i in
    zero_left (bit_and (fields a) (fields b)) 0 i z ∙ sym (bit_at-zero i))

-- a linear expression
pub once_of : (n : ℕ) (free : ℕ) (t : ExprModel) → 0 < n → WordsIn n t → is_linear free t ≡ true → IsOnce t
once_of n free (word w) p f h = tt
once_of n free (reg r w) p f h = tt
once_of n free (const w v) p f h = tt
once_of n free (read space a w) p f h = once_of n free a p f h
once_of n free (un o a) p f h = once_of n free a p f h
once_of n free (bin o a b) p f h =
    let q : (are_apart free a b ≡ true) × ((is_linear free a && is_linear free b) ≡ true) = and_parts _ _ h in
    let r : (is_linear free a ≡ true) × (is_linear free b ≡ true) = and_parts _ _ q.1 in
    let m : bit_and (fields a) (fields b) ≡ 0 = meet_none free a b q.0 in
    (once_of n free a p f.0 r.0, once_of n free b p f.1 r.1, apart_of n a b p f.0 f.1 m, apart_of n b a p f.1 f.0 (and_comm (fields b) (fields a) ∙ m))
once_of n free (slice a hi lo) p f h = once_of n free a p f.0 h
once_of n free (cat a b) p f h =
    let q : (are_apart free a b ≡ true) × ((is_linear free a && is_linear free b) ≡ true) = and_parts _ _ h in
    let r : (is_linear free a ≡ true) × (is_linear free b ≡ true) = and_parts _ _ q.1 in
    let m : bit_and (fields a) (fields b) ≡ 0 = meet_none free a b q.0 in
    (once_of n free a p f.0 r.0, once_of n free b p f.1 r.1, apart_of n a b p f.0 f.1 m, apart_of n b a p f.1 f.0 (and_comm (fields b) (fields a) ∙ m))
once_of n free (zext a w) p f h = once_of n free a p f h
once_of n free (sext a w) p f h = once_of n free a p f h
once_of n free (select c a b) p f h =
    let q : ((are_apart free c a && (are_apart free c b && are_apart free a b)) ≡ true) × ((is_linear free c && (is_linear free a && is_linear free b)) ≡ true) = and_parts _ _ h in
    let q' : (are_apart free c a ≡ true) × ((are_apart free c b && are_apart free a b) ≡ true) = and_parts _ _ q.0 in
    let q'' : (are_apart free c b ≡ true) × (are_apart free a b ≡ true) = and_parts _ _ q'.1 in
    let r : (is_linear free c ≡ true) × ((is_linear free a && is_linear free b) ≡ true) = and_parts _ _ q.1 in
    let r' : (is_linear free a ≡ true) × (is_linear free b ≡ true) = and_parts _ _ r.1 in (
      once_of n free c p f.0 r.0,
      once_of n free a p f.1 r'.0,
      once_of n free b p f.2 r'.1,
      apart_of n c a p f.0 f.1 (meet_none free c a q'.0),
      apart_of n a b p f.1 f.2 (meet_none free a b q''.1),
      apart_of n b c p f.2 f.0 (and_comm (fields b) (fields c) ∙ (meet_none free c b q''.0)),
    )
