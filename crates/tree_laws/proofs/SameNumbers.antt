-- Operators over numbers are their values.
use Rattle.std.proofs.Common.{◌≡◌, ℕ, ◌+◌, ◌-◌, sym, arith, refl}
use Rattle.rec_bits.specs.Operators.{apply1_of, apply2_of, result_width, sext_of, slice_of}
use Rattle.rec_bits.specs.declared.operator.Op1.{Op1}
use Rattle.rec_bits.specs.declared.operator.Op2.{Op2}
use Rattle.net_model.specs.Exprs.{const, un, bin, slice, zext, sext}
use Rattle.tree_laws.specs.Rules.{AreSame}

pub un_value_same : (o : Op1) (w a v : ℕ) → v ≡ apply1_of o w a → AreSame (un o (const w a)) (const w v)
un_value_same o w a v e = record { width = refl; value = λ s i p q. sym e }

pub bin_value_same : (o : Op2) (w a b v x : ℕ) → x ≡ result_width o w → v ≡ apply2_of o w a b → AreSame (bin o (const w a) (const w b)) (const x v)
bin_value_same o w a b v x g e = record { width = sym g; value = λ s i p q. sym e }

pub slice_value_same : (w a i j n t v : ℕ) → t ≡ i + 1 → t ≡ j + n → v ≡ slice_of a i j → AreSame (slice (const w a) i j) (const n v)
slice_value_same w a i j n t v e f g = record { width = (let z : i + 1 - j ≡ n = omega (arith, e, f) in z); value = λ s m p q. sym g }

pub zext_value_same : (w a x : ℕ) → AreSame (zext (const w a) x) (const x a)
zext_value_same w a x = record { width = refl; value = λ s i p q. refl }

pub sext_value_same : (w a x v : ℕ) → v ≡ sext_of a w x → AreSame (sext (const w a) x) (const x v)
sext_value_same w a x v e = record { width = refl; value = λ s i p q. sym e }
