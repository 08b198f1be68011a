-- A range that is known has its ends within the bounds.
use Rattle.std.proofs.Common.{◌≡◌, arith, ◌^◌, ℕ, ℤ, pos, Bool, true, false, ◌&&◌, if◌then◌else◌, Option, Some, None, IfSome, refl, sym, subst}
use Rattle.std.proofs.lemmas.Int.{ints}
use Rattle.std.specs.Prelude.{int_le, ◌-ℤ◌, ◌+ℤ◌, ◌*ℤ◌}
use Rattle.rec_bits.proofs.Booleans.{both}
use Rattle.rec_bits.specs.declared.ranges.Range.{Range}
use Rattle.rec_bits.specs.Ranges.{IsEnd, HasEnds, is_range_end, range_of, sums_of, differences_of, products_of}

end_is : (z : ℤ) → is_range_end z ≡ true → IsEnd z
end_is z h = let k = both (int_le (pos 0 -ℤ pos (2 ^ 64)) z) (int_le z (pos (2 ^ 64))) h in (omega (arith, ints, k), omega (arith, ints, k))

pub bounded : (lo hi : ℤ) (r : Option Range) → r ≡ range_of lo hi → IfSome r HasEnds
bounded lo hi r e = subst (λ (o : Option Range). IfSome o HasEnds) (sym e) (by (is_range_end lo && is_range_end hi) refl)
  where
    by : (b : Bool) → (is_range_end lo && is_range_end hi) ≡ b → IfSome (if b then Some (record { lo = lo; hi = hi }) else None) HasEnds
    by true h = (let k = both (is_range_end lo) (is_range_end hi) h in record { low = end_is lo k.0; high = end_is hi k.1 })
    by false h = tt

pub bounded_sums : (a b : Range) (r : Option Range) → r ≡ sums_of a b → IfSome r HasEnds
bounded_sums a b r e = bounded (a.lo +ℤ b.lo) (a.hi +ℤ b.hi) r e

pub bounded_differences : (a b : Range) (r : Option Range) → r ≡ differences_of a b → IfSome r HasEnds
bounded_differences a b r e = bounded (a.lo -ℤ b.hi) (a.hi -ℤ b.lo) r e

pub bounded_products : (a : Range) (n : ℕ) (r : Option Range) → r ≡ products_of a n → IfSome r HasEnds
bounded_products a n r e = bounded (a.lo *ℤ pos n) (a.hi *ℤ pos n) r e
