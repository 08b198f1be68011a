-- S4, the rule of indexes: the range of an index over whole numbers lies within its array.
use Rattle.std.specs.Prelude.{ℕ, unwrap_or, min, max, Bool, false, not, ◌&&◌, if◌then◌else◌, pos, int_le, int_lt, List, [], ◌∷◌, ◌++◌, Option, Some, None}
use Rattle.rec_bits.specs.declared.operator.Op2.{Op2}
use Rattle.rec_bits.specs.declared.operator.Op2.TheVariants.{Add, Sub, Mul, And}
use Rattle.rec_bits.specs.declared.ranges.Range.{Range}
use Rattle.rec_bits.specs.Ranges.{sums_of, differences_of, products_of}
use Rattle.rec_bits.specs.Faults.{offsets_if}
use Rattle.src_model.specs.declared.program.Var.{Var as Declared}
use Rattle.src_model.specs.Written.{SrcNodeModel, num, plain, element, un, bin, zext, sext, low}
use Rattle.src_model.specs.Names.{declared}
use Rattle.rec_bits.specs.Faults.{same_name}
use Rattle.src_model.specs.Loops.{Round}

-- the number that a number alone is
abbrev pub number_of : SrcNodeModel → Option ℕ
number_of (num n) = Some n
number_of _ = None

-- the numbers from one to another
abbrev pub between : ℕ → ℕ → Range
between from to = record { lo = pos from; hi = pos to }

-- the numbers that a variable takes in the innermost of the loops that count with it
abbrev pub counted_range : List Round → List ℕ → Option Range
counted_range [] name = None
counted_range (round ∷ outer) name =
    if same_name name round.counter then Some (between round.from (max round.from round.to))
    else counted_range outer name

-- what is found of two ranges that are known
abbrev pub of_both : (Range → Range → Option Range) → Option Range → Option Range → Option Range
of_both f (Some a) (Some b) = f a b
of_both f (Some a) None = None
of_both f None b = None

abbrev pub times : Option Range → ℕ → Option Range
times None n = None
times (Some a) n = products_of a n

-- a product with a number alone
abbrev pub product_range : Option ℕ → Option ℕ → Option Range → Option Range → Option Range
product_range (Some n) other left right = times right n
product_range None (Some n) left right = times left n
product_range None None left right = None

-- the bits of a number alone, whatever the other operand is
abbrev pub masked_range : Option ℕ → Option ℕ → Option Range
masked_range (Some n) (Some m) = Some (between 0 (min n m))
masked_range (Some n) None = Some (between 0 n)
masked_range None (Some m) = Some (between 0 m)
masked_range None None = None

abbrev pub range_by : Op2 → Option ℕ → Option ℕ → Option Range → Option Range → Option Range
range_by Add n m left right = of_both sums_of left right
range_by Sub n m left right = of_both differences_of left right
range_by Mul n m left right = product_range n m left right
range_by And n m left right = masked_range n m
range_by op n m left right = None

-- the range of an index
abbrev pub index_range : List Round → SrcNodeModel → Option Range
index_range rounds (num n) = Some (between n n)
index_range rounds (plain name at) = counted_range rounds name
index_range rounds (bin op at x to y) =
    range_by op (number_of x) (number_of y) (index_range rounds x) (index_range rounds y)
index_range rounds _ = None

-- the number of cells of an array
abbrev pub length_of : Option Declared → ℕ
length_of None = 0
length_of (Some v) = unwrap_or v.len 0

-- whether a range is known and lies from 0 to the length less 1
abbrev pub is_within : ℕ → Option Range → Bool
is_within len None = false
is_within len (Some range) = int_le (pos 0) range.lo && int_lt range.hi (pos len)

-- the indexes in an expression whose range doesn't lie within the array
abbrev pub loose : List Declared → List Round → SrcNodeModel → List ℕ
loose vars rounds (num n) = []
loose vars rounds (plain name at) = []
loose vars rounds (element name at to x) =
    offsets_if (not (is_within (length_of (declared vars name)) (index_range rounds x))) to
    ++ loose vars rounds x
loose vars rounds (un op at x) = loose vars rounds x
loose vars rounds (bin op at x to y) = loose vars rounds x ++ loose vars rounds y
loose vars rounds (zext at x width) = loose vars rounds x
loose vars rounds (sext at x width) = loose vars rounds x
loose vars rounds (low at x width) = loose vars rounds x
