-- Literal indexes of which the code can make addresses.
use Rattle.std.specs.Prelude.{ℕ, ◌+◌, ◌^◌, ◌<◌, List, Option, Some, None}
use Rattle.src_model.specs.Written.{SrcNodeModel, num, plain, element, un as un_of, bin as bin_of, zext as zext_of, sext as sext_of, low}
use Rattle.src_model.specs.Indexes.{number_of}
use Rattle.code_model.specs.declared.image.Place.{Place as VariablePlace}
use Rattle.src_trees.specs.Lowered.{base_of}

abbrev pub IsNearAt : List VariablePlace → List ℕ → Option ℕ → Type 0
IsNearAt places name (Some n) = base_of places name + n < 2 ^ 32
IsNearAt places name None = Unit {0}

abbrev pub IsNear : List VariablePlace → SrcNodeModel → Type 0
IsNear places (num n) = Unit {0}
IsNear places (plain name at) = Unit {0}
IsNear places (element name at to x) = IsNearAt places name (number_of x) × IsNear places x
IsNear places (un_of op at x) = IsNear places x
IsNear places (bin_of op at x to y) = IsNear places x × IsNear places y
IsNear places (zext_of at x width) = IsNear places x
IsNear places (sext_of at x width) = IsNear places x
IsNear places (low at x width) = IsNear places x
