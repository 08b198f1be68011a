-- A swap changes no value.
use Rattle.std.proofs.Common.{◌≡◌, ℕ, ◌+◌, ◌%◌, ◌^◌, ◌<◌, ◌==◌, ◌&&◌, Bool, true, false, true≢false, cond, [], ◌∷◌, Option, Some, None, refl, sym, ap, subst, ◌∙◌, arith}
use Rattle.std.specs.Prelude.{option_map, slice_index}
use Rattle.std.proofs.lemmas.Nat.{and_comm, or_comm, xor_comm}
use Rattle.std.proofs.Math.Nat.{mul_comm}
use Rattle.rec_bits.specs.declared.operator.Op1.{Op1}
use Rattle.rec_bits.specs.declared.operator.Op2.{Op2}
use Rattle.rec_bits.specs.declared.operator.Op2.TheVariants.{Add, Sub, Mul, And, Or, Xor, Shl, Shr, Sar, Eq, Ltu, Lts}
use Rattle.rec_bits.specs.Operators.{apply1_of, apply2_of, bit_of, slice_of, cat_of, sext_of, result_width}
use Rattle.rec_bits.proofs.Equality.{number_turned}
use Rattle.std.proofs.lemmas.Bool.{and_parts}
use Rattle.net_model.specs.Nets.{held}
use Rattle.net_model.specs.declared.hardware.Space.{Space}
use Rattle.net_model.specs.Meaning.{mean}
use Rattle.net_model.specs.Exprs.{ExprModel, word, reg, const, read, un, bin, slice, cat, zext, sext, select, expr_width}
use Rattle.operand_swaps.specs.Laws.{AreAlike, IsAddrAlike, IsAlike}
use Rattle.operand_swaps.specs.Swaps.{Path, SidesModel, can_swap, ordered, picks, swap_at, swap_paths, swapped, swaps_here}

alike_refl : (t : ExprModel) → IsAlike t t
alike_refl t = record { width = λ f. refl; fits = λ f. f; same = λ f s i. refl }

alike_trans : (t u v : ExprModel) → IsAlike t u → IsAlike u v → IsAlike t v
alike_trans t u v h k = record {
  width = λ f. k.width (h.fits f) ∙ h.width f;
  fits = λ f. k.fits (h.fits f);
  same = λ f s i. k.same (h.fits f) s i ∙ h.same f s i;
}

-- ---- inside operators

alike_read : (space : Space) (a b : ExprModel) (w : ℕ) → IsAlike a b → IsAlike (read space a w) (read space b w)
alike_read space a b w h = record {
  width = λ f. refl;
  fits = λ f. (h.fits f.0, f.1);
  same = λ f s i. ap (slice_index (held s space)) (h.same f.0 s i);
}

alike_un : (o : Op1) (a b : ExprModel) → IsAlike a b → IsAlike (un o a) (un o b)
alike_un o a b h = record {
  width = λ f. h.width f;
  fits = λ f. h.fits f;
  same = λ f s i. (λ j. apply1_of o (h.width f j) (h.same f s i j));
}

alike_slice : (a b : ExprModel) (hi lo : ℕ) → IsAlike a b → IsAlike (slice a hi lo) (slice b hi lo)
alike_slice a b hi lo h = record {
  width = λ f. refl;
  fits = λ f. (h.fits f.0, (f.1.0, subst (λ n. hi < n) (sym (h.width f.0)) f.1.1));
  same = λ f s i. ap (λ n. slice_of n hi lo) (h.same f.0 s i);
}

alike_zext : (a b : ExprModel) (w : ℕ) → IsAlike a b → IsAlike (zext a w) (zext b w)
alike_zext a b w h = record {
  width = λ f. refl;
  fits = λ f. (h.fits f.0, (subst (λ n. n < w) (sym (h.width f.0)) f.1.0, f.1.1));
  same = λ f s i. h.same f.0 s i;
}

alike_sext : (a b : ExprModel) (w : ℕ) → IsAlike a b → IsAlike (sext a w) (sext b w)
alike_sext a b w h = record {
  width = λ f. refl;
  fits = λ f. (h.fits f.0, (subst (λ n. n < w) (sym (h.width f.0)) f.1.0, f.1.1));
  same = λ f s i. (λ j. sext_of (h.same f.0 s i j) (h.width f.0 j) w);
}

alike_bin : (o : Op2) (a b c d : ExprModel) → IsAlike a c → IsAlike b d → IsAlike (bin o a b) (bin o c d)
alike_bin o a b c d h k = record {
  width = λ f. ap (result_width o) (h.width f.0);
  fits = λ f. (h.fits f.0, k.fits f.1, k.width f.1 ∙ f.2 ∙ sym (h.width f.0));
  same = λ f s i. (λ j. apply2_of o (h.width f.0 j) (h.same f.0 s i j) (k.same f.1 s i j));
}

alike_cat : (a b c d : ExprModel) → IsAlike a c → IsAlike b d → IsAlike (cat a b) (cat c d)
alike_cat a b c d h k = record {
  width = λ f. (λ j. h.width f.0 j + k.width f.1 j);
  fits = λ f. (h.fits f.0, k.fits f.1, (let x = h.width f.0 in let y = k.width f.1 in let z = f.2 in omega (arith, x, y, z)));
  same = λ f s i. (λ j. cat_of (h.same f.0 s i j) (k.same f.1 s i j) (k.width f.1 j));
}

alike_select : (a b c d e g : ExprModel) → IsAlike a d → IsAlike b e → IsAlike c g → IsAlike (select a b c) (select d e g)
alike_select a b c d e g h k l = record {
  width = λ f. k.width f.1;
  fits = λ f. (h.fits f.0, k.fits f.1, l.fits f.2, (h.width f.0 ∙ f.3.0, l.width f.2 ∙ f.3.1 ∙ sym (k.width f.1)));
  same = λ f s i. (λ j. cond (h.same f.0 s i j == 1) (k.same f.1 s i j) (l.same f.2 s i j));
}

-- ---- at an operator that can be swapped

apply_comm : (o : Op2) → can_swap o ≡ true → (w a b : ℕ) → apply2_of o w b a ≡ apply2_of o w a b
apply_comm Add c w a b = ap (λ n. n % 2 ^ w) (omega arith)
apply_comm Mul c w a b = ap (λ n. n % 2 ^ w) (mul_comm b a)
apply_comm And c w a b = and_comm b a
apply_comm Or c w a b = or_comm b a
apply_comm Xor c w a b = xor_comm b a
apply_comm Eq c w a b = ap bit_of (number_turned b a)
apply_comm Sub c w a b = absurd (true≢false (sym c))
apply_comm Shl c w a b = absurd (true≢false (sym c))
apply_comm Shr c w a b = absurd (true≢false (sym c))
apply_comm Sar c w a b = absurd (true≢false (sym c))
apply_comm Ltu c w a b = absurd (true≢false (sym c))
apply_comm Lts c w a b = absurd (true≢false (sym c))

turn_alike : (o : Op2) (a b : ExprModel) → can_swap o ≡ true → IsAlike (bin o a b) (bin o b a)
turn_alike o a b c = record {
  width = λ f. ap (result_width o) f.2;
  fits = λ f. (f.1, f.0, sym f.2);
  same = λ f s i. ap (λ w. apply2_of o w (mean b s i) (mean a s i)) f.2 ∙ apply_comm o c (expr_width a) (mean a s i) (mean b s i);
}

-- ---- at chosen operators

pub at_alike : (chosen : Path → Bool) (t : ExprModel) → IsAlike t (swap_at chosen t)
at_alike chosen (word w) = alike_refl (word w)
at_alike chosen (reg r w) = alike_refl (reg r w)
at_alike chosen (const w v) = alike_refl (const w v)
at_alike chosen (read space a w) = alike_read space a _ w (at_alike (λ path. chosen (0 ∷ path)) a)
at_alike chosen (un o a) = alike_un o a _ (at_alike (λ path. chosen (0 ∷ path)) a)
at_alike chosen (slice a hi lo) = alike_slice a _ hi lo (at_alike (λ path. chosen (0 ∷ path)) a)
at_alike chosen (zext a w) = alike_zext a _ w (at_alike (λ path. chosen (0 ∷ path)) a)
at_alike chosen (sext a w) = alike_sext a _ w (at_alike (λ path. chosen (0 ∷ path)) a)
at_alike chosen (bin o a b) =
    by (swaps_here o a b) (chosen []) refl (alike_bin o a b c d (at_alike (λ path. chosen (0 ∷ path)) a) (at_alike (λ path. chosen (1 ∷ path)) b))
  where
    c : ExprModel
    c = swap_at (λ path. chosen (0 ∷ path)) a

    d : ExprModel
    d = swap_at (λ path. chosen (1 ∷ path)) b

    by : (can is : Bool) → swaps_here o a b ≡ can → IsAlike (bin o a b) (bin o c d) → IsAlike (bin o a b) (ordered (can && is) o c d)
    by true true e h = alike_trans (bin o a b) (bin o c d) (bin o d c) h (turn_alike o c d (and_parts _ _ e).0)
    by true false e h = h
    by false is e h = h
at_alike chosen (cat a b) = alike_cat a b _ _ (at_alike (λ path. chosen (0 ∷ path)) a) (at_alike (λ path. chosen (1 ∷ path)) b)
at_alike chosen (select c a b) =
    alike_select c a b _ _ _ (at_alike (λ path. chosen (0 ∷ path)) c) (at_alike (λ path. chosen (1 ∷ path)) a) (at_alike (λ path. chosen (2 ∷ path)) b)

addr_alike : (chosen : Path → Bool) (a : Option ExprModel) → IsAddrAlike a (option_map (swap_at chosen) a)
addr_alike chosen None = tt
addr_alike chosen (Some a) = at_alike chosen a

-- no choice of swaps changes an address or a value
pub swapped_alike : (choice : ℕ) (sides : SidesModel) → AreAlike sides (swapped choice sides)
swapped_alike choice sides = record {
  addr = addr_alike (λ path. picks choice (swap_paths sides) (0 ∷ path)) sides.addr;
  value = at_alike (λ path. picks choice (swap_paths sides) (1 ∷ path)) sides.value;
}
