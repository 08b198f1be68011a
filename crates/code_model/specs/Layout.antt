-- The layout of a program's memory: the temporary cells from address 0 on, then the variables in
-- the order of their declarations, arrays whole.
use Rattle.std.specs.Prelude.{ℕ, ◌+◌, List, map}
use Rattle.src_model.specs.declared.program.Var.{Var as Declared}
use Rattle.src_model.specs.Written.{ProgramModel}
use Rattle.src_model.specs.Rules.{temp_count}
use Rattle.src_model.specs.Meaning.{cells_in, cell_count}
use Rattle.code_model.specs.declared.image.Places.{Places}
use Rattle.code_model.specs.Places.{places_from}

-- the variables' names with their numbers of cells
abbrev pub variables_of : List Declared → List (List ℕ × ℕ)
variables_of vars = map (λ v. (v.name, cells_in v)) vars

-- the places of a program for words of so many bits
abbrev pub layout_of : ℕ → ProgramModel → Places
layout_of word l = record { temps = temp_count word l; list = places_from (temp_count word l) (variables_of l.vars) }

-- the cells that a program needs: the temporary ones and those of its variables
abbrev pub need_of : ℕ → ProgramModel → ℕ
need_of word l = temp_count word l + cell_count l.vars
