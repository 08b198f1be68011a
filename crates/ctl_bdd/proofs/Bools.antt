-- Lists of bits that grow at their high end.
use Rattle.std.proofs.Common.{◌≡◌, ℕ, ◌+◌, ◌*◌, ◌^◌, ◌&&◌, cond, Bool, true, false, List, [], ◌∷◌, ◌++◌, length, refl, ap, ◌∙◌, arith, suc}
use Rattle.std.proofs.Math.Nat.{pow-suc}
use Rattle.rec_bits.specs.Operators.{bit_of}
use Rattle.ctl_bdd.specs.Bits.{bits_value}
use Rattle.ctl_bdd.specs.Inner.Bits.{pair_of, pairs_of, choice_of, alike, all_alike}
use Rattle.ctl_bdd.specs.declared.bits.Pairing.{Pairing}

pub number_push : (bs : List Bool) (b : Bool) → bits_value (bs ++ b ∷ []) ≡ bits_value bs + bit_of b * 2 ^ length bs
number_push [] true = refl
number_push [] false = refl
number_push (x ∷ bs) b = by (bits_value (bs ++ b ∷ [])) (bits_value bs) (bit_of x) (bit_of b) (2 ^ length bs) (2 ^ suc (length bs)) (number_push bs b) (pow-suc 2 (length bs))
  where
    by : (n m x b p q : ℕ) → n ≡ m + b * p → q ≡ p * 2 → n * 2 + x ≡ m * 2 + x + b * q
    by n m x b p q e f = let g : b * q ≡ b * p * 2 = rw f (omega arith) in omega (arith, e, g)

pub pairs_push : (pairing : Pairing) (xs bs : List Bool) (a b : Bool) → length xs ≡ length bs → pairs_of pairing (xs ++ a ∷ []) (bs ++ b ∷ []) ≡ pairs_of pairing xs bs ++ pair_of pairing a b ∷ []
pairs_push pairing [] [] a b e = refl
pairs_push pairing [] (y ∷ bs) a b e = absurd (omega (arith, e))
pairs_push pairing (x ∷ xs) [] a b e = absurd (omega (arith, e))
pairs_push pairing (x ∷ xs) (y ∷ bs) a b e = ap (λ l. pair_of pairing x y ∷ l) (pairs_push pairing xs bs a b (omega (arith, e)))

pub choice_push : (t : Bool) (xs bs : List Bool) (a b : Bool) → choice_of t xs bs ++ cond t a b ∷ [] ≡ choice_of t (xs ++ a ∷ []) (bs ++ b ∷ [])
choice_push true xs bs a b = refl
choice_push false xs bs a b = refl

pub alike_push : (xs bs : List Bool) (a b : Bool) → length xs ≡ length bs → all_alike (xs ++ a ∷ []) (bs ++ b ∷ []) ≡ (all_alike xs bs && alike a b)
alike_push [] [] true true e = refl
alike_push [] [] true false e = refl
alike_push [] [] false true e = refl
alike_push [] [] false false e = refl
alike_push [] (y ∷ bs) a b e = absurd (omega (arith, e))
alike_push (x ∷ xs) [] a b e = absurd (omega (arith, e))
alike_push (x ∷ xs) (y ∷ bs) a b e = ap (λ t. alike x y && t) (alike_push xs bs a b (omega (arith, e))) ∙ by (alike x y) (all_alike xs bs) (alike a b)
  where
    by : (p q r : Bool) → (p && (q && r)) ≡ ((p && q) && r)
    by true q r = refl
    by false q r = refl
