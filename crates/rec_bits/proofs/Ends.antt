-- Ends of ranges that pass through machine numbers of 128 bits.
use Rattle.std.proofs.Common.{◌≡◌, ap, ◌∙◌, arith}
use Rattle.std.proofs.lemmas.Int.{ints}
use Rattle.std.specs.Prelude.{ℤ, ◌+ℤ◌, ◌-ℤ◌, Option}
use mir.Syntax.{w128}
use mir.Val.{to_z, of_z}
use Rattle.rec_bits.specs.declared.ranges.Range.{Range}
use Rattle.rec_bits.specs.Ranges.{HasEnds, range_of, sums_of, differences_of}

abbrev passed : ℤ → ℤ
passed z = to_z w128 (of_z w128 z)

range_of-ends : (r : Option Range) (lo hi lo' hi' : ℤ) → r ≡ range_of lo hi → lo ≡ lo' → hi ≡ hi' → r ≡ range_of lo' hi'
range_of-ends r lo hi lo' hi' h e f = h ∙ ap (λ x. range_of x hi) e ∙ ap (range_of lo') f

pub sums_passed : (a b : Range) (r : Option Range) → HasEnds a → HasEnds b → r ≡ range_of (passed (passed a.lo +ℤ passed b.lo)) (passed (passed a.hi +ℤ passed b.hi)) → r ≡ sums_of a b
sums_passed a b r p q h = range_of-ends r (passed (passed a.lo +ℤ passed b.lo)) (passed (passed a.hi +ℤ passed b.hi)) (a.lo +ℤ b.lo) (a.hi +ℤ b.hi) h (omega (arith, ints)) (omega (arith, ints))

pub differences_passed : (a b : Range) (r : Option Range) → HasEnds a → HasEnds b → r ≡ range_of (passed (passed a.lo -ℤ passed b.hi)) (passed (passed a.hi -ℤ passed b.lo)) → r ≡ differences_of a b
differences_passed a b r p q h = range_of-ends r (passed (passed a.lo -ℤ passed b.hi)) (passed (passed a.hi -ℤ passed b.lo)) (a.lo -ℤ b.hi) (a.hi -ℤ b.lo) h (omega (arith, ints)) (omega (arith, ints))
