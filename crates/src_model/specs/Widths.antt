-- S3, the rule of widths. One function is the rule and the width at once: the width of what keeps
-- the rule, and otherwise the least offset at which it is broken within. What has a broken part has
-- no width, and breaks nothing itself.
use Rattle.std.specs.Prelude.{ℕ, ◌^◌, min, Bool, true, false, ◌&&◌, ◌==◌, nat_lt, nat_le, if◌then◌else◌, List, [], ◌∷◌, Option, Some, None, Result, Ok, Err}
use Rattle.rec_bits.specs.Operators.{result_width}
use Rattle.rec_bits.specs.Faults.{offsets_if}
use Rattle.src_model.specs.declared.program.Var.{Var as Declared}
use Rattle.src_model.specs.Written.{SrcNodeModel, num, plain, element, un, bin, zext, sext, low, SrcExprModel}

-- a number, or a sign over a literal: its width is what its place asks for
abbrev pub is_literal : SrcNodeModel → Bool
is_literal (num n) = true
is_literal (un op at x) = is_literal x
is_literal _ = false

-- a number that fits the width it is asked for
abbrev pub fitting : ℕ → ℕ → ℕ → Result ℕ ℕ
fitting asked at n = if nat_lt n (2 ^ asked) then Ok asked else Err at

-- an index, or an assigned value: as wide as a word
abbrev pub whole : ℕ → ℕ → Result ℕ ℕ → Result ℕ ℕ
whole word at (Ok width) = if width == word then Ok word else Err at
whole word at (Err fault) = Err fault

-- two operands of one width: that of the left one; where they differ, the right one is at fault
abbrev pub alike : ℕ → Result ℕ ℕ → Result ℕ ℕ → Result ℕ ℕ
alike to (Ok left) (Ok right) = if right == left then Ok left else Err to
alike to (Ok left) (Err fault) = Err fault
alike to (Err fault) (Ok right) = Err fault
alike to (Err fault) (Err other) = Err (min fault other)

-- what is asked for the width of an operand, where that has one
abbrev pub asking : Result ℕ ℕ → (ℕ → Result ℕ ℕ) → Result ℕ ℕ
asking (Ok width) f = f width
asking (Err fault) f = Err fault

-- an operator's value at operands of this width
abbrev pub operated : (ℕ → ℕ) → Result ℕ ℕ → Result ℕ ℕ
operated result (Ok width) = Ok (result width)
operated result (Err fault) = Err fault

-- an extension to more bits, at most 64
abbrev pub extended : ℕ → ℕ → Result ℕ ℕ → Result ℕ ℕ
extended to at (Ok width) = if nat_lt width to && nat_le to 64 then Ok to else Err at
extended to at (Err fault) = Err fault

-- the low bits, at least one and fewer than there are
abbrev pub lowered : ℕ → ℕ → Result ℕ ℕ → Result ℕ ℕ
lowered to at (Ok width) = if nat_lt 0 to && nat_lt to width then Ok to else Err at
lowered to at (Err fault) = Err fault

-- the width of both operands: a literal has that of the other operand, and two literals have the
-- word's
abbrev pub side_by_side : Bool → Bool → ℕ → Result ℕ ℕ → Result ℕ ℕ → (ℕ → Result ℕ ℕ) → (ℕ → Result ℕ ℕ) → Result ℕ ℕ
side_by_side true false to left right left_at right_at = asking right left_at
side_by_side false true to left right left_at right_at = asking left right_at
side_by_side true true to left right left_at right_at = alike to left right
side_by_side false false to left right left_at right_at = alike to left right

-- the width of an expression: that of a word, what is asked of a literal, where it stands, and what
-- it is
abbrev pub wide : ℕ → ℕ → ℕ → SrcNodeModel → Result ℕ ℕ
wide word asked here (num n) = fitting asked here n
wide word asked here (plain name at) = Ok word
wide word asked here (element name at to x) = whole word to (wide word word to x)
wide word asked here (un op at x) = wide word asked at x
wide word asked here (bin op at x to y) = operated (result_width op) (side_by_side (is_literal x) (is_literal y) to
    (wide word word at x) (wide word word to y) (λ width. wide word width at x) (λ width. wide word width to y))
wide word asked here (zext at x to) = extended to here (wide word word at x)
wide word asked here (sext at x to) = extended to here (wide word word at x)
wide word asked here (low at x to) = lowered to here (wide word word at x)

-- the width of the two sides of a test
abbrev pub sides : ℕ → SrcExprModel → SrcExprModel → Result ℕ ℕ
sides word left right = side_by_side (is_literal left.shape) (is_literal right.shape) right.at
    (wide word word left.at left.shape) (wide word word right.at right.shape)
    (λ width. wide word width left.at left.shape) (λ width. wide word width right.at right.shape)

-- the offset at which the rule is broken, if it is
abbrev pub misfit : Result ℕ ℕ → List ℕ
misfit (Ok width) = []
misfit (Err at) = at ∷ []

-- an array without cells
abbrev pub is_empty_array : Option ℕ → Bool
is_empty_array None = false
is_empty_array (Some len) = len == 0

abbrev pub empty_array : Declared → List ℕ
empty_array v = offsets_if (is_empty_array v.len) v.at
