-- How large an expression is: what recursions over expressions go down by.
use Rattle.std.proofs.Common.{ℕ, ◌+◌}
use Rattle.src_model.specs.Written.{SrcNodeModel, num, plain, element, un, bin, zext, sext, low}

abbrev pub weight : SrcNodeModel → ℕ
weight (num n) = 1
weight (plain name at) = 1
weight (element name at to x) = 1 + weight x
weight (un op at x) = 1 + weight x
weight (bin op at x to y) = 1 + weight x + weight y
weight (zext at x width) = 1 + weight x
weight (sext at x width) = 1 + weight x
weight (low at x width) = 1 + weight x
