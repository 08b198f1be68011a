-- Widths that are written in an expression.
use Rattle.std.specs.Prelude.{◌≤◌}
use Rattle.src_model.specs.Written.{SrcNodeModel, num, plain, element, un, bin, zext, sext, low}

-- the widths that are written at the root of an expression, and of its operators' operands, are at
-- most 64
abbrev pub IsNarrow : SrcNodeModel → Type 0
IsNarrow (num n) = Unit {0}
IsNarrow (plain name at) = Unit {0}
IsNarrow (element name at to x) = Unit {0}
IsNarrow (un op at x) = IsNarrow x
IsNarrow (bin op at x to y) = IsNarrow x × IsNarrow y
IsNarrow (zext at x width) = width ≤ 64
IsNarrow (sext at x width) = width ≤ 64
IsNarrow (low at x width) = width ≤ 64
