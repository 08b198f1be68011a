-- What is read of a line of a memory text.
use Rattle.std.specs.Prelude.{ℕ, Bool, false, ◌||◌, ◌^◌, ◌≢◌, ◌<◌, ◌==◌, nat_lt, if◌then◌else◌, List, length, position, Option, Some, None, slice_get}
use Rattle.std.specs.Str.{bytes_eq}
use Rattle.net_model.specs.declared.hardware.Netlist.{Netlist}
use Rattle.net_model.specs.declared.hardware.Storage.{Storage}
use Rattle.net_model.specs.declared.hardware.Storage.TheVariants.{Register, Memory, File}
use Rattle.net_model.specs.declared.hardware.Cells.{Cells}
use Rattle.net_model.specs.declared.hardware.Space.{Space}
use Rattle.net_model.specs.declared.hardware.Space.TheVariants.{Memory as InMemory, File as InFile}
use Rattle.net_model.specs.declared.states.State.{State}
use Rattle.net_model.specs.Nets.{counter_of, place_in, size_in, width_in, held, storage_bits, storage_name, IsRegister}
use Rattle.net_model.specs.MemoryText.{with_register, with_cell}
use Rattle.text_lines.specs.Fields.{parts_at, number_of, line_end, ◌>>=◌}
use Rattle.state_text.specs.declared.setting.Setting.{Setting}
use Rattle.state_text.specs.declared.setting.Setting.TheVariants.{Entry, Cell}

-- a number of so many bits to the end of the line, decimal without leading zeros
abbrev pub below : ℕ → ℕ → Option ℕ
below width n = if nat_lt n (2 ^ width) then Some n else None

unfoldable pub number_below : ℕ → List ℕ → Option ℕ
number_below width text = line_end text >>= number_of >>= below width

-- the first storage of this name; no two have one name
abbrev pub named_at : List Storage → List ℕ → Option ℕ
named_at storages name = position (λ storage. bytes_eq (storage_name storage) name) storages

-- behind a register's name and a space: VALUE
unfoldable pub entry_of : ℕ → ℕ → List ℕ → Option Setting
entry_of storage width text = number_below width text >>= λ value. Some (Entry storage value)

-- behind a memory's or a file's name and a space: ADDRESS VALUE
unfoldable pub cell_of : Space → ℕ → ℕ → List ℕ → Option Setting
cell_of space size width text =
    parts_at 32 text >>= λ parts. number_of parts.0 >>= λ address.
    number_below width parts.1 >>= λ value.
    if nat_lt address size then Some (Cell space address value) else None

-- what stands behind the name of a storage with cells
unfoldable pub array_at : List Storage → ℕ → Space → Cells → List ℕ → Option Setting
array_at storages id space cells text =
    if id == place_in space storages then cell_of space cells.size cells.width text else None

-- this is the number
abbrev pub is_number : Option ℕ → ℕ → Bool
is_number None id = false
is_number (Some n) id = n == id

-- what stands behind the name of this storage; nothing sets the program counter or `still`
unfoldable pub setting_at : Netlist → Option ℕ → ℕ → Option Storage → List ℕ → Option Setting
setting_at netlist still id None text = None
setting_at netlist still id (Some (Register name width input when)) text =
    if (id == counter_of netlist.codes) || is_number still id then None else entry_of id width text
setting_at netlist still id (Some (Memory cells)) text = array_at netlist.storages id InMemory cells text
setting_at netlist still id (Some (File cells)) text = array_at netlist.storages id InFile cells text

-- what stands behind a name
unfoldable pub setting_for : Netlist → Option ℕ → List ℕ → List ℕ → Option Setting
setting_for netlist still name text =
    named_at netlist.storages name >>= λ id.
    setting_at netlist still id (slice_get netlist.storages id) text

-- what a line sets, if it is of the form
unfoldable pub setting_of : Netlist → Option ℕ → List ℕ → Option Setting
setting_of netlist still line = parts_at 32 line >>= λ parts. setting_for netlist still parts.0 parts.1

abbrev pub with_setting : State → Setting → State
with_setting s (Entry storage value) = with_register s storage value
with_setting s (Cell space address value) = with_cell s space address value

-- what a line sets fits: a register that isn't the program counter and not `still`, or a cell, with a
-- value of its width
abbrev pub SettingFits : Netlist → Option ℕ → Setting → Type 0
SettingFits netlist still (Entry id value) =
    IsRegister (slice_get netlist.storages id) × (id ≢ counter_of netlist.codes) × (still ≢ Some id)
    × (value < 2 ^ storage_bits (slice_get netlist.storages id))
SettingFits netlist still (Cell space address value) =
    (address < size_in space netlist.storages) × (value < 2 ^ width_in space netlist.storages)

-- there is such an entry or cell
abbrev pub IsWithin : State → Setting → Type 0
IsWithin s (Entry id value) = id < length s.regs
IsWithin s (Cell space address value) = address < length (held s space)
