-- The names of a program: which declaration a name has, where a name is declared again, and where
-- it doesn't stand for what its place asks for.
use Rattle.std.specs.Prelude.{ℕ, Bool, false, not, is_some, nat_eq, if◌then◌else◌, List, [], ◌∷◌, ◌++◌, Option, Some, None}
use Rattle.std.specs.Cmp.Lexicographic.{pointwise}
use Rattle.rec_bits.specs.Faults.{offsets_if}
use Rattle.src_model.specs.declared.program.Var.{Var as Declared}
use Rattle.src_model.specs.Written.{SrcNodeModel, num, plain, element, un, bin, zext, sext, low}
use Rattle.rec_bits.specs.Faults.{same_name}

-- the first declaration of a name
abbrev pub declared : List Declared → List ℕ → Option Declared
declared [] name = None
declared (v ∷ rest) name = if same_name name v.name then Some v else declared rest name

abbrev pub is_plain : Option Declared → Bool
is_plain None = false
is_plain (Some v) = not (is_some v.len)

abbrev pub is_array : Option Declared → Bool
is_array None = false
is_array (Some v) = is_some v.len

-- S1: the declarations whose name an earlier one has
abbrev pub repeats : List Declared → List Declared → List ℕ
repeats before [] = []
repeats before (v ∷ rest) = offsets_if (is_some (declared before v.name)) v.at ++ repeats (before ++ v ∷ []) rest

-- S2 in an expression: the names that aren't declared, the arrays without an index, and the plain
-- variables with one
abbrev pub unknown : List Declared → SrcNodeModel → List ℕ
unknown vars (num n) = []
unknown vars (plain name at) = offsets_if (not (is_plain (declared vars name))) at
unknown vars (element name at to x) = offsets_if (not (is_array (declared vars name))) at ++ unknown vars x
unknown vars (un op at x) = unknown vars x
unknown vars (bin op at x to y) = unknown vars x ++ unknown vars y
unknown vars (zext at x width) = unknown vars x
unknown vars (sext at x width) = unknown vars x
unknown vars (low at x width) = unknown vars x
