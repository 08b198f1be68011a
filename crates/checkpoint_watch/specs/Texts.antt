-- The text of checkpoints: a line for each, with the cells that changed since the line before, and
-- a last line that tells whether the end was seen. A store is the list of the cells of all
-- variables, in order of place.
use Rattle.std.specs.Prelude.{ℕ, ◌+◌, ◌==◌, ◌||◌, if◌then◌else◌, Bool, true, false, List, [], ◌∷◌, ◌++◌, codes, drop, take, Option, Some, None}
use Rattle.std.specs.List.{concat}
use Rattle.std.specs.Fmt.{decimal}
use Rattle.src_model.specs.declared.checkpoint.Checkpoint.{Checkpoint}
use Rattle.src_model.specs.declared.checkpoint.Checkpoint.TheVariants.{At, End}
use Rattle.src_model.specs.declared.program.Var.{Var as Declared}
use Rattle.src_model.specs.Meaning.{cells_in, cell_count}
use Rattle.code_model.specs.Machine.{TraceEntry}
use Rattle.src_model.specs.Meaning.{zeros}

-- ---- stores

-- the cells of these variables, the first of which has this address in the memory
abbrev pub store_from : List Declared → ℕ → List ℕ → List ℕ
store_from vars address cells = take (cell_count vars) (drop address cells)

-- ---- cells that changed

-- name, or name[index] of an array, where a plain variable has no length
abbrev pub cell_name : List ℕ → Option ℕ → ℕ → List ℕ
cell_name name None index = name
cell_name name (Some len) index = concat (name ∷ codes "[" ∷ decimal index ∷ codes "]" ∷ [])

-- name=value or name[index]=value behind a space, and nothing where the cell holds what it held
abbrev pub change : Declared → ℕ → ℕ → ℕ → List ℕ
change var index old new =
    if old == new then [] else concat (codes " " ∷ cell_name var.name var.len index ∷ codes "=" ∷ decimal new ∷ [])

-- the changes of a variable's cells, the first of which has this index
abbrev pub changes_from : Declared → ℕ → List ℕ → List ℕ → List ℕ
changes_from var index (old ∷ olds) (new ∷ news) = change var index old new ++ changes_from var (index + 1) olds news
changes_from var index _ _ = []

-- the changes from one store to another
abbrev pub changes : List Declared → List ℕ → List ℕ → List ℕ
changes [] olds news = []
changes (var ∷ vars) olds news =
    changes_from var 0 (take (cells_in var) olds) (take (cells_in var) news)
    ++ changes vars (drop (cells_in var) olds) (drop (cells_in var) news)

-- ---- lines

-- the tree's number, or end
abbrev pub checkpoint_label : Checkpoint → List ℕ
checkpoint_label (At tree) = decimal tree
checkpoint_label End = codes "end"

-- at CYCLE LABEL, and what changed since this store
abbrev pub checkpoint_line : List Declared → List ℕ → TraceEntry → List ℕ
checkpoint_line vars before entry =
    concat (codes "at " ∷ decimal entry.cycle ∷ codes " " ∷ checkpoint_label entry.passed.label
    ∷ changes vars before entry.passed.cells ∷ codes "\n" ∷ [])

-- a checkpoint that is seen
abbrev pub trace_entry : ℕ → Checkpoint → List ℕ → TraceEntry
trace_entry cycle label cells = record { cycle = cycle; passed = record { label = label; cells = cells } }

-- a line for each checkpoint, the first relative to this store, and each later one to the store of
-- the line before
abbrev pub checkpoint_lines : List Declared → List ℕ → List TraceEntry → List ℕ
checkpoint_lines vars before [] = []
checkpoint_lines vars before (entry ∷ entries) =
    checkpoint_line vars before entry ++ checkpoint_lines vars entry.passed.cells entries

-- ---- the text

abbrev pub is_end : Checkpoint → Bool
is_end (At tree) = false
is_end End = true

-- whether the end was seen
abbrev pub has_end : List TraceEntry → Bool
has_end [] = false
has_end (entry ∷ entries) = is_end entry.passed.label || has_end entries

-- end, or budget where there were no more cycles
abbrev pub last_line : Bool → List ℕ
last_line ended = if ended then codes "end\n" else codes "budget\n"

-- the lines, of which the first has all cells that aren't 0, and the last line
abbrev pub checkpoint_text : List Declared → List TraceEntry → List ℕ
checkpoint_text vars entries = checkpoint_lines vars (zeros vars) entries ++ last_line (has_end entries)
