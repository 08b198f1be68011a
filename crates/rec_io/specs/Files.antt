-- Files by name.
use Rattle.std.specs.Prelude.{ℕ, List, [], ◌∷◌, Option, None, Some, bytes_eq, if◌then◌else◌}

-- a finite map from names to bytes: the first pair with a name is the file of that name
abbrev pub Files : Type 0
Files = List (List ℕ × List ℕ)

-- the bytes of the file of this name
abbrev pub file_of : Files → List ℕ → Option (List ℕ)
file_of [] name = None
file_of (file ∷ files) name = if bytes_eq file.0 name then Some file.1 else file_of files name
