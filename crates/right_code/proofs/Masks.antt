-- Bits of a word that is put together from two parts.
use Rattle.std.proofs.Common.{◌≡◌, ℕ, min, max, bit_and, bit_or, Some, sym, ◌∙◌, ap, arith}
use Rattle.std.specs.Int.{bit_at}
use Rattle.std.proofs.lemmas.Nat.Bits.{bit_at_and, bit_at_or, bit_at-lt, same_from_bits, bit_at-zero}
use Rattle.rec_bits.proofs.Bits.{within_mask}
use Rattle.net_model.specs.Exprs.{ExprModel}
use Rattle.net_model.specs.Fields.{fields}
use Rattle.form_model.specs.Shapes.{shape_setting}
use Rattle.emit_seq.proofs.Within.{shape_within}

-- under a mask that the second part has no bit of
pub mask_first : (s b f g : ℕ) → bit_and b g ≡ b → bit_and f g ≡ 0 → bit_and (bit_or s b) f ≡ bit_and s f
mask_first s b f g e z = same_from_bits (bit_and (bit_or s b) f) (bit_and s f) at
  where
    at : (i : ℕ) → bit_at (bit_and (bit_or s b) f) i ≡ bit_at (bit_and s f) i
    at i =
        let p : bit_at (bit_and (bit_or s b) f) i ≡ min (max (bit_at s i) (bit_at b i)) (bit_at f i) = bit_at_and (bit_or s b) f i ∙ ap (λ n. min n (bit_at f i)) (bit_at_or s b i) in
        let q : bit_at (bit_and s f) i ≡ min (bit_at s i) (bit_at f i) = bit_at_and s f i in
        let u : bit_at b i ≡ min (bit_at b i) (bit_at g i) = ap (λ n. bit_at n i) (sym e) ∙ bit_at_and b g i in
        let v : 0 ≡ min (bit_at f i) (bit_at g i) = sym (bit_at-zero i) ∙ ap (λ n. bit_at n i) (sym z) ∙ bit_at_and f g i in
        omega (arith, bit_at-lt s i, bit_at-lt b i, bit_at-lt f i, bit_at-lt g i)

-- under a mask that the first part has no bit of
pub mask_second : (s b f g : ℕ) → bit_and s f ≡ s → bit_and f g ≡ 0 → bit_and (bit_or s b) g ≡ bit_and b g
mask_second s b f g e z = same_from_bits (bit_and (bit_or s b) g) (bit_and b g) at
  where
    at : (i : ℕ) → bit_at (bit_and (bit_or s b) g) i ≡ bit_at (bit_and b g) i
    at i =
        let p : bit_at (bit_and (bit_or s b) g) i ≡ min (max (bit_at s i) (bit_at b i)) (bit_at g i) = bit_at_and (bit_or s b) g i ∙ ap (λ n. min n (bit_at g i)) (bit_at_or s b i) in
        let q : bit_at (bit_and b g) i ≡ min (bit_at b i) (bit_at g i) = bit_at_and b g i in
        let u : bit_at s i ≡ min (bit_at s i) (bit_at f i) = ap (λ n. bit_at n i) (sym e) ∙ bit_at_and s f i in
        let v : 0 ≡ min (bit_at f i) (bit_at g i) = sym (bit_at-zero i) ∙ ap (λ n. bit_at n i) (sym z) ∙ bit_at_and f g i in
        omega (arith, bit_at-lt s i, bit_at-lt b i, bit_at-lt f i, bit_at-lt g i)

-- a mask joined with nothing
pub none_or : (b f : ℕ) → bit_and b (bit_or 0 f) ≡ bit_and b f
none_or b f = same_from_bits (bit_and b (bit_or 0 f)) (bit_and b f) at
  where
    at : (i : ℕ) → bit_at (bit_and b (bit_or 0 f)) i ≡ bit_at (bit_and b f) i
    at i =
        let p : bit_at (bit_and b (bit_or 0 f)) i ≡ min (bit_at b i) (max (bit_at 0 i) (bit_at f i)) = bit_at_and b (bit_or 0 f) i ∙ ap (λ n. min (bit_at b i) n) (bit_at_or 0 f i) in
        let q : bit_at (bit_and b f) i ≡ min (bit_at b i) (bit_at f i) = bit_at_and b f i in
        let z : bit_at 0 i ≡ 0 = bit_at-zero i in
        omega (arith, bit_at-lt b i, bit_at-lt f i)

pub or_none : (b f : ℕ) → bit_and b (bit_or f 0) ≡ bit_and b f
or_none b f = same_from_bits (bit_and b (bit_or f 0)) (bit_and b f) at
  where
    at : (i : ℕ) → bit_at (bit_and b (bit_or f 0)) i ≡ bit_at (bit_and b f) i
    at i =
        let p : bit_at (bit_and b (bit_or f 0)) i ≡ min (bit_at b i) (max (bit_at f i) (bit_at 0 i)) = bit_at_and b (bit_or f 0) i ∙ ap (λ n. min (bit_at b i) n) (bit_at_or f 0 i) in
        let q : bit_at (bit_and b f) i ≡ min (bit_at b i) (bit_at f i) = bit_at_and b f i in
        let z : bit_at 0 i ≡ 0 = bit_at-zero i in
        omega (arith, bit_at-lt b i, bit_at-lt f i)

-- the bits that show a value are bits of the shape
pub shape_bits : (e : ExprModel) (v b : ℕ) → shape_setting e v ≡ Some b → bit_and b (fields e) ≡ b
shape_bits e v b h = within_mask b (fields e) (shape_within e v b h)
