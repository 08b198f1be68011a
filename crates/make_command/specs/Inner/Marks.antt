-- Where the end of a program is marked.
use Rattle.std.specs.Prelude.{ℕ, is_none, if◌then◌else◌, List, [], ◌∷◌, Option, Some, None}
use Rattle.code_model.specs.declared.image.Mark.{Mark}

-- the address of the first mark without a number, if there is one
abbrev pub end_address : List Mark → Option ℕ
end_address [] = None
end_address (mark ∷ marks) = if is_none mark.label then Some mark.address else end_address marks
