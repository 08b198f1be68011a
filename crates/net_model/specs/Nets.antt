-- Nets, storages and codes by their numbers. Widths, sizes and numbers; the data memory is the
-- first memory, the program counter the register that the first code names. A *space* is the data
-- memory or the register file, the first of a netlist: what is said of cells is said once, of a
-- space. Where the text's edition has a bank, the file is the bank (`is_banked`), and nothing that
-- is said of values and clocks asks which.
use Rattle.std.specs.Prelude.{ℕ, suc, nat_lt, if◌then◌else◌, List, [], ◌∷◌, length, Option, Some, None, slice_get, option_map, Bool, true, false}
use Rattle.net_model.specs.declared.hardware.Netlist.{Netlist}
use Rattle.net_model.specs.declared.hardware.Net.{Net}
use Rattle.net_model.specs.declared.hardware.Code.{Code}
use Rattle.net_model.specs.declared.hardware.Storage.{Storage}
use Rattle.net_model.specs.declared.hardware.Storage.TheVariants.{Register, Memory, File}
use Rattle.net_model.specs.declared.hardware.Cells.{Cells}
use Rattle.net_model.specs.declared.hardware.Space.{Space}
use Rattle.net_model.specs.declared.hardware.Space.TheVariants.{Memory as InMemory, File as InFile}
use Rattle.net_model.specs.declared.states.State.{State}
use Rattle.net_model.specs.declared.hardware.Gate.{Gate}
use Rattle.net_model.specs.declared.hardware.Gate.TheVariants.{Word, Reg, Read, Const, Wire, Un, Bin, Slice, Cat, Zext, Sext, Case, Bus}

-- ---- widths and sizes; 0 where there is no such thing

abbrev pub width_of : Netlist → ℕ → Option ℕ
width_of netlist n = option_map (λ net. net.width) (slice_get netlist.nets n)

abbrev pub net_width : Option Net → ℕ
net_width None = 0
net_width (Some net) = net.width

-- the width of a net
abbrev pub width_at : Netlist → ℕ → ℕ
width_at netlist n = net_width (slice_get netlist.nets n)

-- the bits of a code's words
abbrev pub code_bits : Option Code → ℕ
code_bits None = 0
code_bits (Some code) = code.bits

-- the bits of an instruction word
abbrev pub word_width : Netlist → ℕ
word_width netlist = code_bits (slice_get netlist.codes 0)

-- ---- storages

abbrev pub storage_name : Storage → List ℕ
storage_name (Register name width input when) = name
storage_name (Memory cells) = cells.name
storage_name (File cells) = cells.name

-- the cells of a memory or of a file
abbrev pub storage_array : Storage → Option Cells
storage_array (Register name width input when) = None
storage_array (Memory cells) = Some cells
storage_array (File cells) = Some cells

abbrev pub array_width : Option Cells → ℕ
array_width None = 0
array_width (Some cells) = cells.width

abbrev pub array_size : Option Cells → ℕ
array_size None = 0
array_size (Some cells) = cells.size

abbrev pub array_addr_width : Option Cells → ℕ
array_addr_width None = 0
array_addr_width (Some cells) = cells.addr_width

-- the width of a register, or of a storage's cells
abbrev pub storage_bits : Option Storage → ℕ
storage_bits None = 0
storage_bits (Some (Register name width input when)) = width
storage_bits (Some (Memory cells)) = cells.width
storage_bits (Some (File cells)) = cells.width

-- the number of a storage's cells
abbrev pub storage_cells : Option Storage → ℕ
storage_cells None = 0
storage_cells (Some storage) = array_size (storage_array storage)

-- ---- the data memory is the first memory, and the register file the first file

abbrev pub is_in : Space → Storage → Bool
is_in InMemory (Memory cells) = true
is_in InFile (File cells) = true
is_in _ _ = false

-- the number of a space's storage, and its cells
abbrev pub place_in : Space → List Storage → ℕ
place_in space [] = 0
place_in space (storage ∷ storages) = if is_in space storage then 0 else suc (place_in space storages)

abbrev pub array_in : Space → List Storage → Option Cells
array_in space [] = None
array_in space (storage ∷ storages) = if is_in space storage then storage_array storage else array_in space storages

abbrev pub width_in : Space → List Storage → ℕ
width_in space storages = array_width (array_in space storages)

abbrev pub size_in : Space → List Storage → ℕ
size_in space storages = array_size (array_in space storages)

abbrev pub addr_width_in : Space → List Storage → ℕ
addr_width_in space storages = array_addr_width (array_in space storages)

abbrev pub memory_id : List Storage → ℕ
memory_id storages = place_in InMemory storages

-- the number of the register file's storage, where there is one
abbrev pub file_place : List Storage → Option ℕ
file_place storages =
    if nat_lt (place_in InFile storages) (length storages) then Some (place_in InFile storages) else None

abbrev pub memory_width : List Storage → ℕ
memory_width storages = width_in InMemory storages

abbrev pub memory_size : List Storage → ℕ
memory_size storages = size_in InMemory storages

-- the cells that a read of a storage is of
abbrev pub space_of : Option Storage → Space
space_of (Some (File cells)) = InFile
space_of _ = InMemory

abbrev pub space_at : Netlist → ℕ → Space
space_at netlist id = space_of (slice_get netlist.storages id)

-- what a state holds there
abbrev pub held : State → Space → List ℕ
held s InMemory = s.cells
held s InFile = s.file

-- ---- the program counter is the storage that the first code names

abbrev pub counter_of : List Code → ℕ
counter_of [] = 0
counter_of (code ∷ codes) = code.counter

abbrev pub counter_width : Netlist → ℕ
counter_width netlist = storage_bits (slice_get netlist.storages (counter_of netlist.codes))

abbrev pub IsRegister : Option Storage → Type 0
IsRegister None = ⊥
IsRegister (Some (Register name width input when)) = Unit {0}
IsRegister (Some (Memory cells)) = ⊥
IsRegister (Some (File cells)) = ⊥

-- a storage with cells of a space
abbrev pub HasCells : Space → Option Storage → Type 0
HasCells InMemory (Some (Memory cells)) = Unit {0}
HasCells InFile (Some (File cells)) = Unit {0}
HasCells _ _ = ⊥

abbrev pub IsMemory : Option Storage → Type 0
IsMemory o = HasCells InMemory o

-- ---- the nets that a gate names

abbrev pub row_nets : List (ℕ × ℕ) → Option ℕ → List ℕ
row_nets [] None = []
row_nets [] (Some rest) = rest ∷ []
row_nets (row ∷ rows) rest = row.1 ∷ row_nets rows rest

abbrev pub driver_nets : List (ℕ × ℕ) → List ℕ
driver_nets [] = []
driver_nets (driver ∷ drivers) = driver.0 ∷ driver.1 ∷ driver_nets drivers

abbrev pub gate_nets : Gate → List ℕ
gate_nets (Word code) = []
gate_nets (Reg id) = []
gate_nets (Read memory addr) = addr ∷ []
gate_nets (Const c) = []
gate_nets (Wire a) = a ∷ []
gate_nets (Un op a) = a ∷ []
gate_nets (Bin op a b) = a ∷ b ∷ []
gate_nets (Slice of hi lo) = of ∷ []
gate_nets (Cat a b) = a ∷ b ∷ []
gate_nets (Zext a) = a ∷ []
gate_nets (Sext a) = a ∷ []
gate_nets (Case sel rows rest) = sel ∷ row_nets rows rest
gate_nets (Bus drivers) = driver_nets drivers

abbrev pub nets_of : Option Net → List ℕ
nets_of None = []
nets_of (Some net) = gate_nets net.gate
