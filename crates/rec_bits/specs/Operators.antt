-- What the operators are: arithmetic on whole numbers, with the width given. A value of w bits is
-- a number below 2^w. Sums, differences, products and negation are modulo 2^w; and, or, xor, not
-- go bit by bit; a shift by w or more gives 0, and `sar` copies of the top bit; comparisons give
-- one bit, `lts` in two's complement. `slice`, `cat`, `sext` are parts, joins and extensions.
use Rattle.std.specs.Prelude.{ℕ, ◌+◌, ◌-◌, ◌*◌, ◌/◌, ◌%◌, ◌^◌, Bool, if◌then◌else◌, ◌==◌, nat_lt, nat_le, bit_and, bit_or, bit_xor, ℤ, pos, ◌-ℤ◌, int_lt, ◌≤◌}
use Rattle.rec_bits.specs.declared.operator.Op1.{Op1}
use Rattle.rec_bits.specs.declared.operator.Op1.TheVariants.{Not, Neg}
use Rattle.rec_bits.specs.declared.operator.Op2.{Op2}
use Rattle.rec_bits.specs.declared.operator.Op2.TheVariants.{Add, Sub, Mul, And, Or, Xor, Shl, Shr, Sar, Eq, Ltu, Lts}

-- 1 for a test that holds
abbrev pub bit_of : Bool → ℕ
bit_of b = if b then 1 else 0

-- whether the top bit of a value is 1
abbrev pub is_negative_of : ℕ → ℕ → Bool
is_negative_of width a = nat_le (2 ^ (width - 1)) a

-- the value as a number in two's complement
abbrev pub signed_of : ℕ → ℕ → ℤ
signed_of width a = if is_negative_of width a then pos a -ℤ pos (2 ^ width) else pos a

-- a shift to the right, with zeros
abbrev pub shr_of : ℕ → ℕ → ℕ → ℕ
shr_of width a b = if nat_lt b width then a / 2 ^ b else 0

-- a shift to the right with copies of the top bit: of a negative value it is the complement of the
-- shifted complement
abbrev pub sar_of : ℕ → ℕ → ℕ → ℕ
sar_of width a b =
    if is_negative_of width a then 2 ^ width - 1 - shr_of width (2 ^ width - 1 - a) b else shr_of width a b

abbrev pub apply2_of : Op2 → ℕ → ℕ → ℕ → ℕ
apply2_of Add width a b = (a + b) % 2 ^ width
apply2_of Sub width a b = (a + 2 ^ width - b) % 2 ^ width
apply2_of Mul width a b = (a * b) % 2 ^ width
apply2_of And width a b = bit_and a b
apply2_of Or width a b = bit_or a b
apply2_of Xor width a b = bit_xor a b
apply2_of Shl width a b = if nat_lt b width then (a * 2 ^ b) % 2 ^ width else 0
apply2_of Shr width a b = shr_of width a b
apply2_of Sar width a b = sar_of width a b
apply2_of Eq width a b = bit_of (a == b)
apply2_of Ltu width a b = bit_of (nat_lt a b)
apply2_of Lts width a b = bit_of (int_lt (signed_of width a) (signed_of width b))

abbrev pub apply1_of : Op1 → ℕ → ℕ → ℕ
apply1_of Not width a = 2 ^ width - 1 - a
apply1_of Neg width a = (2 ^ width - a) % 2 ^ width

-- the bits from hi down to lo
abbrev pub slice_of : ℕ → ℕ → ℕ → ℕ
slice_of a hi lo = (a / 2 ^ lo) % 2 ^ (hi + 1 - lo)

-- a above the low bits b
abbrev pub cat_of : ℕ → ℕ → ℕ → ℕ
cat_of a b low_width = a * 2 ^ low_width + b

-- copies of the top bit above the value
abbrev pub sext_of : ℕ → ℕ → ℕ → ℕ
sext_of a from to = if is_negative_of from a then a + (2 ^ to - 2 ^ from) else a

-- the width of an operator's value at operands of this width
abbrev pub result_width : Op2 → ℕ → ℕ
result_width Eq width = 1
result_width Ltu width = 1
result_width Lts width = 1
result_width op width = width

-- the widths that there are
abbrev pub IsWidth : ℕ → Type 0
IsWidth width = (1 ≤ width) × (width ≤ 64)
