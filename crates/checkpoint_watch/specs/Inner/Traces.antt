-- What of a text is a trace's, and what a single state adds to it.
use Rattle.std.specs.Prelude.{ℕ, Bool, false, List, [], Option, Some, None}
use Rattle.net_model.specs.Clock.{Outcome, Next, Clash}
use Rattle.src_model.specs.declared.checkpoint.Checkpoint.{Checkpoint}
use Rattle.src_model.specs.declared.program.Var.{Var as Declared}
use Rattle.code_model.specs.Machine.{Traced, Shows, Clashes}
use Rattle.checkpoint_watch.specs.Texts.{checkpoint_line, checkpoint_lines, has_end, trace_entry, is_end}
use Rattle.checkpoint_watch.specs.Traces.{entries_of}

-- ---- traces

-- the lines of its checkpoints, the first relative to this store
abbrev pub trace_lines : List Declared → List ℕ → Traced → List ℕ
trace_lines vars before trace = checkpoint_lines vars before (entries_of trace)

-- whether the end is seen
abbrev pub trace_ends : Traced → Bool
trace_ends trace = has_end (entries_of trace)

-- no clock before the end mark clashes
abbrev pub IsShown : Traced → Type 0
IsShown (Shows entries) = Unit {0}
IsShown Clashes = ⊥

-- a clock that doesn't clash
abbrev pub IsNext : Outcome → Type 0
IsNext (Next t) = Unit {0}
IsNext (Clash bus) = ⊥

-- ---- states, with their labels and stores

-- the line that is written
abbrev pub line_at : List Declared → List ℕ → Option Checkpoint → ℕ → List ℕ → List ℕ
line_at vars before None cycle cells = []
line_at vars before (Some label) cycle cells = checkpoint_line vars before (trace_entry cycle label cells)

-- the store that the last line tells
abbrev pub store_after_line : Option Checkpoint → List ℕ → List ℕ → List ℕ
store_after_line None before cells = before
store_after_line (Some label) before cells = cells

-- whether it is the end
abbrev pub ends_at : Option Checkpoint → Bool
ends_at None = false
ends_at (Some label) = is_end label
