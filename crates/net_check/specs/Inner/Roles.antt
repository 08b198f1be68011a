-- The memory of a netlist that has one, and the measures of cells.
use Rattle.std.specs.Prelude.{◌≡◌, ◌≤◌, ◌+◌, ◌^◌, List, [], ◌∷◌, Option, Some, None}
use Rattle.net_model.specs.declared.hardware.Storage.{Storage}
use Rattle.net_model.specs.declared.hardware.Storage.TheVariants.{Register, Memory, File}
use Rattle.net_model.specs.declared.hardware.Cells.{Cells}
use Rattle.net_model.specs.Nets.{memory_size, memory_width}
use Rattle.net_model.specs.CheckedRules.{IsAddressed, memory_count, memory_addr_width}
use Rattle.net_check.specs.declared.role.CellMeasures.{CellMeasures}

-- the measures of a memory or a file
abbrev pub shape_of : Cells → CellMeasures
shape_of cells = record { width = cells.width; size = cells.size; addr_width = cells.addr_width }

-- the lone memory of these storages and of what was met before
abbrev pub lone_from : Option CellMeasures → List Storage → Option CellMeasures
lone_from met [] = met
lone_from met (Register name width input when ∷ storages) = lone_from met storages
lone_from met (File cells ∷ storages) = lone_from met storages
lone_from None (Memory cells ∷ storages) = lone_from (Some (shape_of cells)) storages
lone_from (Some shape) (Memory cells ∷ storages) = None

-- cells of both are as wide, and named by as many bits
abbrev pub AreAlike : CellMeasures → CellMeasures → Type 0
AreAlike bank memory = (bank.width ≡ memory.width) × (bank.addr_width ≡ memory.addr_width)

-- a cell has room for an address of one bit more, and for a sign
abbrev pub HasRoom : CellMeasures → Type 0
HasRoom memory = (memory.addr_width ≤ 15) × (memory.addr_width + 2 ≤ memory.width)

-- a bank of these measures may stand beside a memory of those
pub record IsShapedBeside (bank memory : CellMeasures) : Type 0 where
  pub alike : AreAlike bank memory
  pub room : HasRoom memory
  pub size : IsAddressed bank.size memory.addr_width
  pub full : memory.size ≡ 2 ^ memory.addr_width

-- the measures of the first memory
pub record IsShape (storages : List Storage) (shape : CellMeasures) : Type 0 where
  pub one : memory_count storages ≡ 1
  pub width : memory_width storages ≡ shape.width
  pub size : memory_size storages ≡ shape.size
  pub addr_width : memory_addr_width storages ≡ shape.addr_width
