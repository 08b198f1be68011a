-- How long a line is at most.
use Rattle.std.specs.Prelude.{ℕ, ◌+◌, ◌*◌, ◌^◌, ◌<◌, List, [], ◌∷◌, length, slice_index}
use Rattle.src_model.specs.declared.checkpoint.Checkpoint.{Checkpoint}
use Rattle.src_model.specs.declared.checkpoint.Checkpoint.TheVariants.{At, End}
use Rattle.src_model.specs.declared.program.Var.{Var as Declared}
use Rattle.src_model.specs.Meaning.{cells_in}
use Rattle.code_model.specs.Machine.{TraceEntry}

abbrev pub CheckpointFits : Checkpoint → Type 0
CheckpointFits (At tree) = tree < 2 ^ 32
CheckpointFits End = Unit {0}

-- a cycle and a label of 32 bits each, fewer than 2 ^ 32 cells, and values of 64 bits
pub record EntryFits (entry : TraceEntry) : Type 0 where
  pub cycle : entry.cycle < 2 ^ 32
  pub label : CheckpointFits entry.passed.label
  pub few : length entry.passed.cells < 2 ^ 32
  pub values : (cell : ℕ) → slice_index entry.passed.cells cell < 2 ^ 64

-- a change of each cell of these variables: ten digits for an index, and twenty for a value
abbrev pub changes_room : List Declared → ℕ
changes_room [] = 0
changes_room (var ∷ vars) = cells_in var * (length var.name + 34) + changes_room vars

-- a line with all of them, and ten digits each for the cycle and the label
abbrev pub line_room : List Declared → ℕ
line_room vars = changes_room vars + 25
