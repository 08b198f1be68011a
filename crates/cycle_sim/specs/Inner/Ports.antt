-- How the cells of a space are written, looked up once.
use Rattle.std.specs.Prelude.{ℕ, ◌≤◌, ◌&&◌, nat_lt, if◌then◌else◌, List, Option, Some, None, slice_set}
use Rattle.net_model.specs.declared.hardware.Cells.{Cells}
use Rattle.net_model.specs.Clock.{is_enabled}
use Rattle.cycle_sim.specs.declared.edge.Port.{Port}

abbrev pub port_of : Option Cells → Option Port
port_of None = None
port_of (Some cells) =
    Some (record { width = cells.width; value = cells.value; addr = cells.addr; when = cells.when })

-- what the cells become
abbrev pub cells_by : (ℕ → ℕ) → Option Port → List ℕ → List ℕ
cells_by v None cells = cells
cells_by v (Some port) cells = if is_enabled v port.when then slice_set cells (v port.addr) (v port.value) else cells

-- which of so many cells is written
abbrev pub cell_by : (ℕ → ℕ) → Option Port → ℕ → Option ℕ
cell_by v None size = None
cell_by v (Some port) size = if is_enabled v port.when && nat_lt (v port.addr) size then Some (v port.addr) else None

-- the width of a cell
abbrev pub memory_port_width : Option Port → ℕ
memory_port_width None = 0
memory_port_width (Some port) = port.width

abbrev pub HasPortWidth : Option Port → Type 0
HasPortWidth None = Unit {0}
HasPortWidth (Some port) = (1 ≤ port.width) × (port.width ≤ 64)
