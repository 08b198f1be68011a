-- What tests say of their parts. Those that the toolchain's library has are passed on.
use Rattle.std.proofs.Common.{◌≡◌, ◌&&◌, ◌||◌, Bool, true, false, not, cond, ℕ, ◌<◌, ◌≤◌, ◌⊎◌, inl, inr, refl, sym, ◌∙◌, arith}
use Rattle.std.proofs.lemmas.Bool.{and_parts, or_parts, true≢false}
pub use Rattle.std.proofs.lemmas.Bool.{and_parts as both, and_from, or_left, or_right, or_cases, or_parts, or_from}
pub use Rattle.std.proofs.Math.Bool.{and-true, and-false, or-false, and_assoc, or_assoc, or_comm}

pub and_left : (a b : Bool) → (a && b) ≡ true → a ≡ true
and_left a b e = (and_parts a b e).0

pub and_right : (a b : Bool) → (a && b) ≡ true → b ≡ true
and_right a b e = (and_parts a b e).1

pub not_true : (a : Bool) → not a ≡ true → a ≡ false
not_true true e = absurd cc
not_true false e = refl

pub left_false : (a b : Bool) → (a || b) ≡ false → a ≡ false
left_false a b e = (or_parts a b e).0

pub right_false : (a b : Bool) → (a || b) ≡ false → b ≡ false
right_false a b e = (or_parts a b e).1

pub left_true : (a b : Bool) → (a || b) ≡ true → b ≡ false → a ≡ true
left_true true b e f = refl
left_true false b e f = absurd (true≢false (sym e ∙ f))

pub true_false : (b : Bool) → b ≡ true → b ≡ false → ⊥
true_false b e f = true≢false (sym e ∙ f)

pub impossible : {P : Type 0} → false ≡ true → P
impossible e = absurd (true≢false (sym e))

-- tests that hold at once are the same
pub same_truth : (a b : Bool) → (a ≡ true → b ≡ true) → (b ≡ true → a ≡ true) → a ≡ b
same_truth true b f g = sym (f refl)
same_truth false true f g = g refl
same_truth false false f g = refl

-- ---- what a choice gives

pub either : {X : Type 0} (b : Bool) (x y z : X) → cond b x y ≡ z → (x ≡ z) ⊎ (y ≡ z)
either true x y z h = inl h
either false x y z h = inr h

pub cond_below : (b : Bool) (x y n : ℕ) → x < n → y < n → cond b x y < n
cond_below true x y n h k = h
cond_below false x y n h k = k

pub cond_within : (b : Bool) (x y n : ℕ) → x ≤ n → y ≤ n → cond b x y ≤ n
cond_within true x y n h k = h
cond_within false x y n h k = k

pub bit_within : (b : Bool) → cond b 1 0 ≤ 1
bit_within b = cond_within b 1 0 1 (omega arith) (omega arith)
