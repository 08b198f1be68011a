-- What the expressions of a pool read.
use Rattle.std.specs.Prelude.{ℕ, ◌≡◌, ◌<◌, Bool, false, List, length, slice_index}
use Rattle.std.specs.List.{slice_index_or}
use Rattle.sym_expr.specs.declared.pool.Node.{Node}
use Rattle.sym_expr.specs.Pools.{expr_of_id}
use Rattle.form_model.specs.Effects.{LocationModel, register, cell_at, some_cell, expr_reads}
use Rattle.form_model.specs.Live.{regs_of}
use Rattle.live_sets.specs.declared.locations.Location.{Location}
use Rattle.live_sets.specs.declared.locations.Location.TheVariants.{Register, Cell, Cells}

-- for each of the first ids of a pool the registers below 16 that its expression reads, under any
-- setting
abbrev pub AreReads : List Node → List ℕ → Type 0
AreReads pool sets =
    (id setting r : ℕ) → id < length sets → r < 16 →
    regs_of (slice_index sets id) r ≡ expr_reads setting (expr_of_id pool id) (register r)

-- for each of the first ids of a pool whether its expression may see a write at a location
abbrev pub AreSeen : List Node → ℕ → LocationModel → List Bool → Type 0
AreSeen pool setting location flags =
    (id : ℕ) → id < length flags →
    slice_index_or flags id false ≡ expr_reads setting (expr_of_id pool id) location

-- a location as the code tells it
abbrev pub model_of_location : Location → LocationModel
model_of_location (Register id) = register id
model_of_location (Cell space address) = cell_at space address
model_of_location (Cells space) = some_cell space
