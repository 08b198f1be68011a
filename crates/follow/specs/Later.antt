-- What is left of an image's marks for who goes up the addresses.
use Rattle.std.specs.Prelude.{ℕ, nat_lt, if◌then◌else◌, List, [], ◌∷◌}
use Rattle.code_model.specs.declared.image.Mark.{Mark}

-- the marks from the first on that isn't below an address
abbrev pub marks_from : List Mark → ℕ → List Mark
marks_from [] low = []
marks_from (mark ∷ marks) low = if nat_lt mark.address low then marks_from marks low else mark ∷ marks
