-- Equal numbers and operators: their `==` holds exactly of the same ones.
use Rattle.std.proofs.Common.{◌≡◌, ◌==◌, ◌&&◌, ℕ, true, List, [], ◌∷◌, refl, sym, true≢false}
use Rattle.std.specs.Cmp.Lexicographic.{pointwise}
use Rattle.std.specs.Prelude.{nat_eq}
use Rattle.std.proofs.lemmas.Bool.{and_parts, and_from, eqb-true, eq-eqb}
use Rattle.rec_bits.proofs.Booleans.{same_truth}
use Rattle.rec_bits.specs.declared.operator.Op1.{Op1}
use Rattle.rec_bits.specs.declared.operator.Op1.TheVariants.{Not, Neg}
use Rattle.rec_bits.specs.declared.operator.Op2.{Op2}
use Rattle.rec_bits.specs.declared.operator.Op2.TheVariants.{Add, Sub, Mul, And, Or, Xor, Shl, Shr, Sar, Eq, Ltu, Lts}
use Rattle.rec_bits.specs.contracts.operator.Op1PartialEq.TheImpl.{ghosts as op1_eq}
use Rattle.rec_bits.specs.contracts.operator.Op2PartialEq.TheImpl.{ghosts as op2_eq}

-- ---- numbers

pub number_self : (n : ℕ) → (n == n) ≡ true
number_self n = eq-eqb n n refl

pub number_turned : (a b : ℕ) → (a == b) ≡ (b == a)
number_turned a b = same_truth (a == b) (b == a) (λ e. eq-eqb b a (sym (eqb-true a b e))) (λ e. eq-eqb a b (sym (eqb-true b a e)))

pub name_self : (name : List ℕ) → pointwise nat_eq name name ≡ true
name_self [] = refl
name_self (n ∷ name) = and_from (n == n) (pointwise nat_eq name name) (number_self n) (name_self name)

-- what is made of equal numbers
module _ {X : Type 0} where
  pub of_number : (f : ℕ → X) (a a' : ℕ) → (a == a') ≡ true → f a ≡ f a'
  of_number f a a' h = let e : a ≡ a' = eqb-true a a' h in (λ j. f (e j))

  pub of_two_numbers : (f : ℕ → ℕ → X) (a b a' b' : ℕ) → (a == a' && b == b') ≡ true → f a b ≡ f a' b'
  of_two_numbers f a b a' b' h =
      let p = and_parts (a == a') (b == b') h in
      let ea : a ≡ a' = eqb-true a a' p.0 in
      let eb : b ≡ b' = eqb-true b b' p.1 in
      (λ j. f (ea j) (eb j))

  pub of_three_numbers : (f : ℕ → ℕ → ℕ → X) (a b c a' b' c' : ℕ) → (a == a' && (b == b' && c == c')) ≡ true → f a b c ≡ f a' b' c'
  of_three_numbers f a b c a' b' c' h =
      let p = and_parts (a == a') (b == b' && c == c') h in
      let q = and_parts (b == b') (c == c') p.1 in
      let ea : a ≡ a' = eqb-true a a' p.0 in
      let eb : b ≡ b' = eqb-true b b' q.0 in
      let ec : c ≡ c' = eqb-true c c' q.1 in
      (λ j. f (ea j) (eb j) (ec j))

-- ---- operators

pub op1_is : (a b : Op1) → op1_eq.eq a b ≡ true → a ≡ b
op1_is Not Not h = refl
op1_is Neg Neg h = refl
op1_is a b h = absurd (true≢false (sym h))

pub op1_self : (a : Op1) → op1_eq.eq a a ≡ true
op1_self Not = refl
op1_self Neg = refl

pub op2_is : (a b : Op2) → op2_eq.eq a b ≡ true → a ≡ b
op2_is Add Add h = refl
op2_is Sub Sub h = refl
op2_is Mul Mul h = refl
op2_is And And h = refl
op2_is Or Or h = refl
op2_is Xor Xor h = refl
op2_is Shl Shl h = refl
op2_is Shr Shr h = refl
op2_is Sar Sar h = refl
op2_is Eq Eq h = refl
op2_is Ltu Ltu h = refl
op2_is Lts Lts h = refl
op2_is a b h = absurd (true≢false (sym h))

pub op2_self : (a : Op2) → op2_eq.eq a a ≡ true
op2_self Add = refl
op2_self Sub = refl
op2_self Mul = refl
op2_self And = refl
op2_self Or = refl
op2_self Xor = refl
op2_self Shl = refl
op2_self Shr = refl
op2_self Sar = refl
op2_self Eq = refl
op2_self Ltu = refl
op2_self Lts = refl
