-- A netlist has one list of patterns.
use Rattle.std.proofs.Common.{◌≡◌, ℕ, zero, suc, List, [], ◌∷◌, inl, inr, refl, sym, subst, ◌∙◌, arith}
use Rattle.std.specs.Prelude.{AllPairs, Contains}
use Rattle.std.proofs.lemmas.List.Elements.{All-contains}
use Rattle.net_model.specs.declared.hardware.Netlist.{Netlist}
use Rattle.net_model.specs.Patterns.{ArePatterns, IsPatternBefore, IsPattern, IsTextBefore, Pattern}
use Rattle.net_model.specs.Texts.{text_of_transfer}

-- ---- the order of patterns goes one way

text_one_way : (a b : List ℕ) → IsTextBefore a b → IsTextBefore b a → ⊥
text_one_way [] [] h k = h
text_one_way [] (y ∷ ys) h k = k
text_one_way (x ∷ xs) [] h k = h
text_one_way (x ∷ xs) (y ∷ ys) (inl h) (inl k) = omega arith
text_one_way (x ∷ xs) (y ∷ ys) (inl h) (inr k) = let e = k.0 in omega arith
text_one_way (x ∷ xs) (y ∷ ys) (inr h) (inl k) = let e = h.0 in omega arith
text_one_way (x ∷ xs) (y ∷ ys) (inr h) (inr k) = text_one_way xs ys h.1 k.1

pub one_way : (netlist : Netlist) (p q : Pattern) → IsPatternBefore netlist p q → IsPatternBefore netlist q p → ⊥
one_way netlist p q (inl h) (inl k) = omega arith
one_way netlist p q (inl h) (inr k) = let e = k.0 in omega arith
one_way netlist p q (inr h) (inl k) = let e = h.0 in omega arith
one_way netlist p q (inr h) (inr k) = text_one_way (text_of_transfer netlist p.storage p.move) (text_of_transfer netlist q.storage q.move) h.1 k.1

-- ---- two lists in such an order that have the same elements are one

module _ {X : Type 0} (R : X → X → Type 0) (goes : (x y : X) → R x y → R y x → ⊥) where
  below_head : (x z : X) (xs : List X) → AllPairs R (x ∷ xs) → Contains xs z → R x z
  below_head x z xs pairs (k, within, is) = subst (R x) is (pairs zero (suc k) z (omega arith) (omega arith))

  tail_pairs : (x : X) (xs : List X) → AllPairs R (x ∷ xs) → AllPairs R xs
  tail_pairs x xs pairs i j d lt within = pairs (suc i) (suc j) d (omega arith) (omega arith)

  same_heads : (x y : X) (xs ys : List X) → AllPairs R (x ∷ xs) → AllPairs R (y ∷ ys) → Contains (y ∷ ys) x → Contains (x ∷ xs) y → x ≡ y
  same_heads x y xs ys p q (zero, a, is) b = sym is
  same_heads x y xs ys p q (suc k, a, is) (zero, b, also) = also
  same_heads x y xs ys p q (suc k, a, is) (suc l, b, also) =
      absurd (goes x y (below_head x y xs p (l, omega arith, also)) (below_head y x ys q (k, omega arith, is)))

  -- an element behind the head stands behind the other's head
  in_tail : (x y z : X) (xs ys : List X) → AllPairs R (x ∷ xs) → x ≡ y → Contains xs z → Contains (y ∷ ys) z → Contains ys z
  in_tail x y z xs ys p e in_xs (zero, a, is) =
      let r : R x z = below_head x z xs p in_xs in
      let same : z ≡ x = sym is ∙ sym e in
      let s : R x x = subst (R x) same r in absurd (goes x x s s)
  in_tail x y z xs ys p e in_xs (suc k, a, is) = (k, omega arith, is)

  pub same_lists : (xs ys : List X) → AllPairs R xs → AllPairs R ys → ((x : X) → Contains xs x → Contains ys x) → ((x : X) → Contains ys x → Contains xs x) → xs ≡ ys
  same_lists [] [] p q f g = refl
  same_lists [] (y ∷ ys) p q f g = let c = g y (zero, omega arith, refl) in let lt = c.1 in absurd (omega arith)
  same_lists (x ∷ xs) [] p q f g = let c = f x (zero, omega arith, refl) in let lt = c.1 in absurd (omega arith)
  same_lists (x ∷ xs) (y ∷ ys) p q f g =
      let e : x ≡ y = same_heads x y xs ys p q (f x (zero, omega arith, refl)) (g y (zero, omega arith, refl)) in
      let rest : xs ≡ ys = same_lists xs ys (tail_pairs x xs p) (tail_pairs y ys q)
      (λ z (k, within, is). in_tail x y z xs ys p e (k, within, is) (f z (suc k, omega arith, is)))
      (λ z (k, within, is). in_tail y x z ys xs q (sym e) (k, within, is) (g z (suc k, omega arith, is))) in
      rw (e, rest) refl

-- ---- patterns

-- a netlist has one list of patterns
pub patterns_one : (netlist : Netlist) (a b : List Pattern) → ArePatterns netlist a → ArePatterns netlist b → a ≡ b
patterns_one netlist a b p q =
    same_lists (IsPatternBefore netlist) (one_way netlist) a b p.ordered q.ordered
    (λ x within. q.every x (All-contains (IsPattern netlist) a x p.each within))
    (λ x within. p.every x (All-contains (IsPattern netlist) b x q.each within))
