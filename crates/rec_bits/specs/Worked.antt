-- The operators at worked values.
use Rattle.std.specs.Prelude.{◌≡◌, refl, ℕ, ◌^◌, pos, negsuc, Some, None}
use Rattle.rec_bits.specs.declared.operator.Op1.TheVariants.{Not, Neg}
use Rattle.rec_bits.specs.declared.operator.Op2.TheVariants.{Add, Sub, Mul, And, Or, Xor, Shl, Shr, Sar, Eq, Ltu, Lts}
use Rattle.rec_bits.specs.declared.ranges.Range.{Range}
use Rattle.rec_bits.specs.Operators.{apply1_of, apply2_of, slice_of, cat_of, sext_of}
use Rattle.rec_bits.specs.Ranges.{sums_of, differences_of, products_of}

-- 4 bits: sums, differences and products are modulo 16
add_wraps : apply2_of Add 4 9 12 ≡ 5
add_wraps = refl

sub_wraps : apply2_of Sub 4 2 5 ≡ 13
sub_wraps = refl

mul_is_low : apply2_of Mul 4 7 7 ≡ 1
mul_is_low = refl

mul_of_64 : apply2_of Mul 64 (2 ^ 63) 3 ≡ 2 ^ 63
mul_of_64 = refl

mul_past_64 : apply2_of Mul 64 16045690981116495207 65537 ≡ 11357163545046959463
mul_past_64 = refl

neg_wraps : apply1_of Neg 4 3 ≡ 13
neg_wraps = refl

neg_of_zero : apply1_of Neg 4 0 ≡ 0
neg_of_zero = refl

-- bit by bit
and_bits : apply2_of And 4 12 10 ≡ 8
and_bits = refl

or_bits : apply2_of Or 4 12 10 ≡ 14
or_bits = refl

xor_bits : apply2_of Xor 4 12 10 ≡ 6
xor_bits = refl

not_bits : apply1_of Not 4 10 ≡ 5
not_bits = refl

-- shifts: nothing is left where the count is the width; sar copies the top bit
shl_drops : apply2_of Shl 4 13 1 ≡ 10
shl_drops = refl

shl_at_width : apply2_of Shl 4 13 4 ≡ 0
shl_at_width = refl

shr_drops : apply2_of Shr 4 13 2 ≡ 3
shr_drops = refl

sar_copies : apply2_of Sar 4 9 1 ≡ 12
sar_copies = refl

sar_of_positive : apply2_of Sar 4 5 1 ≡ 2
sar_of_positive = refl

sar_at_width : apply2_of Sar 4 9 4 ≡ 15
sar_at_width = refl

sar_past_width : apply2_of Sar 4 5 9 ≡ 0
sar_past_width = refl

-- comparisons: 9 is -7 in two's complement of 4 bits
eq_of_equals : apply2_of Eq 4 9 9 ≡ 1
eq_of_equals = refl

ltu_as_numbers : apply2_of Ltu 4 9 3 ≡ 0
ltu_as_numbers = refl

lts_with_sign : apply2_of Lts 4 9 3 ≡ 1
lts_with_sign = refl

lts_of_negatives : apply2_of Lts 4 9 15 ≡ 1
lts_of_negatives = refl

-- parts
slice_of_middle : slice_of 181 5 2 ≡ 13
slice_of_middle = refl

cat_above : cat_of 5 3 2 ≡ 23
cat_above = refl

sext_of_negative : sext_of 9 4 8 ≡ 249
sext_of_negative = refl

sext_of_positive : sext_of 5 4 8 ≡ 5
sext_of_positive = refl

-- ---- ranges

abbrev range : ℕ → ℕ → Range
range lo hi = record { lo = pos lo; hi = pos hi }

sum_of_ranges : sums_of (range 1 3) (range 10 20) ≡ Some (range 11 23)
sum_of_ranges = refl

sum_of_bytes : sums_of (record { lo = negsuc 127; hi = pos 127 }) (record { lo = negsuc 127; hi = pos 127 })
    ≡ Some (record { lo = negsuc 255; hi = pos 254 })
sum_of_bytes = refl

difference_of_ranges : differences_of (range 1 3) (range 0 20) ≡ Some (record { lo = negsuc 18; hi = pos 3 })
difference_of_ranges = refl

product_of_ranges : products_of (record { lo = negsuc 1; hi = pos 3 }) 5 ≡ Some (record { lo = negsuc 9; hi = pos 15 })
product_of_ranges = refl

sum_past_bound : sums_of (range 0 (2 ^ 64)) (range 0 1) ≡ None
sum_past_bound = refl
