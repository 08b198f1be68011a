-- Which simulators may exchange what they hold. Simulators may exchange what they hold where the
-- storages of their netlists have the same kinds, widths and sizes (`AreAlike`).
use Rattle.std.specs.Prelude.{ℕ, ◌≡◌, List, map, Option, Some, None}
use Rattle.net_model.specs.declared.hardware.Netlist.{Netlist}
use Rattle.net_model.specs.declared.hardware.Storage.{Storage}
use Rattle.net_model.specs.declared.hardware.Storage.TheVariants.{Register, Memory, File}
use Rattle.net_model.specs.declared.hardware.Space.{Space}
use Rattle.net_model.specs.declared.hardware.Space.TheVariants.{Memory as InMemory, File as InFile}
use Rattle.cycle_sim.specs.Shown.{Shown}

-- a storage's kind, its width and its size: a register has no space of cells
abbrev pub shape_of : Storage → Option Space × ℕ × ℕ
shape_of (Register name width input when) = (None, width, 0)
shape_of (Memory cells) = (Some InMemory, cells.width, cells.size)
shape_of (File cells) = (Some InFile, cells.width, cells.size)

-- storages of the same kinds, widths and sizes
abbrev pub AreAlike : Netlist → Netlist → Type 0
AreAlike a b = map shape_of a.storages ≡ map shape_of b.storages

-- a simulator with what another holds and wrote last
abbrev pub holding : Shown → Shown → Shown
holding sim other = record sim { state = other.state; last_write = other.last_write }
