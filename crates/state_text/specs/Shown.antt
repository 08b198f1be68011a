-- The text of a state.
use Rattle.std.specs.Prelude.{ℕ, ◌+◌, ◌==◌, if◌then◌else◌, List, [], ◌∷◌, ◌++◌, ◌*◌, length, codes, slice_index}
use Rattle.std.specs.List.{concat}
use Rattle.std.specs.Fmt.{decimal}
use Rattle.net_model.specs.declared.hardware.Netlist.{Netlist}
use Rattle.net_model.specs.declared.hardware.Storage.{Storage}
use Rattle.net_model.specs.declared.hardware.Storage.TheVariants.{Register, Memory, File}
use Rattle.net_model.specs.declared.hardware.Space.{Space}
use Rattle.net_model.specs.declared.hardware.Space.TheVariants.{Memory as InMemory, File as InFile}
use Rattle.net_model.specs.declared.states.State.{State}
use Rattle.net_model.specs.Nets.{size_in}
use Rattle.net_model.specs.Texts.{space_name}
use Rattle.net_model.specs.MemoryText.{register_line, cell_line}

-- a line for each register, where the first of these storages has this number
abbrev pub register_lines : List ℕ → ℕ → List Storage → List ℕ
register_lines regs id [] = []
register_lines regs id (Register name width input when ∷ storages) =
    register_line name (slice_index regs id) ++ register_lines regs (id + 1) storages
register_lines regs id (Memory cells ∷ storages) = register_lines regs (id + 1) storages
register_lines regs id (File cells ∷ storages) = register_lines regs (id + 1) storages

-- nothing for a cell of 0
abbrev pub shown_cell : List ℕ → ℕ → ℕ → List ℕ
shown_cell name address value = if value == 0 then [] else cell_line name address value

-- a line for each cell that isn't 0, where the first of these cells has this address
abbrev pub cell_lines : List ℕ → ℕ → List ℕ → List ℕ
cell_lines name address [] = []
cell_lines name address (value ∷ cells) = shown_cell name address value ++ cell_lines name (address + 1) cells

-- cycles N, the registers in order of declaration, the file's cells by address, the memory's, done
abbrev pub state_text : Netlist → ℕ → State → List ℕ
state_text netlist cycles s =
    concat (codes "cycles " ∷ decimal cycles ∷ codes "\n" ∷ register_lines s.regs 0 netlist.storages
    ∷ cell_lines (space_name netlist InFile) 0 s.file ∷ cell_lines (space_name netlist InMemory) 0 s.cells ∷ codes "done\n" ∷ [])

-- how long the lines of these registers are at most
abbrev pub register_room : List Storage → ℕ
register_room [] = 0
register_room (Register name width input when ∷ storages) = length name + 22 + register_room storages
register_room (Memory cells ∷ storages) = register_room storages
register_room (File cells ∷ storages) = register_room storages

-- and those of a space's cells
abbrev pub cell_room : Netlist → Space → ℕ
cell_room netlist space = size_in space netlist.storages * (length (space_name netlist space) + 43)

-- how long the text of a state is at most
abbrev pub state_room : Netlist → ℕ
state_room netlist =
    33 + register_room netlist.storages + cell_room netlist InFile + cell_room netlist InMemory
