-- The limits of a netlist text, N11, which go by the edition: beside a bank there are at most
-- 1,000 nets, and its size counts as the memory's does.
use Rattle.std.specs.Prelude.{ℕ, ◌+◌, if◌then◌else◌, List, [], ◌∷◌, max, Option, Some, None, nat_le}
use Rattle.rec_bits.specs.Counts.{capped}
use Rattle.net_model.specs.declared.fault.NetFault.{NetFault}
use Rattle.net_model.specs.declared.fault.NetFault.TheVariants.{Limit}
use Rattle.net_model.specs.declared.fault.NetKind.{NetKind}
use Rattle.net_model.specs.declared.fault.NetKind.TheVariants.{Nets, Registers, Cells, Words, File}
use Rattle.net_model.specs.declared.hardware.Space.{Space}
use Rattle.net_model.specs.declared.hardware.Space.TheVariants.{Memory as InMemory, File as InFile}
use Rattle.net_model.specs.Editions.{is_banked}
use Rattle.net_model.specs.Written.{UnitModel, code, register, memory}
use Rattle.net_model.specs.Numbering.{count_items}
use Rattle.rec_bits.specs.Faults.{or_else}

abbrev pub count_register : UnitModel → ℕ
count_register (register kind name width input when) = 1
count_register _ = 0

abbrev pub count_registers : List UnitModel → ℕ
count_registers [] = 0
count_registers (e ∷ entries) = count_register e + count_registers entries

-- the cells of an item of a space
abbrev pub cells_of : Space → UnitModel → ℕ
cells_of InMemory (memory InMemory name width size addr_width value addr when) = size
cells_of InFile (memory InFile name width size addr_width value addr when) = size
cells_of _ _ = 0

-- how many a memory and a file may have in an edition; where it has a bank, a file is the bank, and
-- may have as many as the memory
abbrev pub most_cells : ℕ → Space → ℕ
most_cells edition InMemory = 65536
most_cells edition InFile = if is_banked edition then 65536 else 32

-- how many nets there may be in an edition; where it has a bank, so few that the netlist with one
-- memory in place of two has no more than the others
abbrev pub most_nets : ℕ → ℕ
most_nets edition = if is_banked edition then 1000 else 4096

abbrev pub words_of_unit : UnitModel → ℕ
words_of_unit (code name bits size counter) = size
words_of_unit _ = 0

-- the greatest size, and 0 where there is none
abbrev pub greatest : (UnitModel → ℕ) → List UnitModel → ℕ
greatest size [] = 0
greatest size (e ∷ entries) = max (size e) (greatest size entries)

-- a count above its bound
abbrev pub over : NetKind → ℕ → ℕ → Option NetFault
over kind bound count = if nat_le count bound then None else Some (Limit kind count bound)

-- the greatest size of a register file in a text of an edition: a bank is none
abbrev pub file_size : ℕ → List UnitModel → ℕ
file_size edition text = if is_banked edition then 0 else greatest (cells_of InFile) text

-- the greatest size of a memory or a bank
abbrev pub data_size : ℕ → List UnitModel → ℕ
data_size edition text =
    if is_banked edition then max (greatest (cells_of InFile) text) (greatest (cells_of InMemory) text)
    else greatest (cells_of InMemory) text

-- N11 in an edition: the nets, the registers, the cells of a file and of a memory or a bank and the
-- words of a code, in this order
abbrev pub limit_fault : ℕ → List UnitModel → Option NetFault
limit_fault edition text =
    or_else (over Nets (most_nets edition) (capped (count_items text text)))
    (or_else (over Registers 13 (capped (count_registers text)))
    (or_else (over File 32 (file_size edition text))
    (or_else (over Cells 65536 (data_size edition text)) (over Words 65536 (greatest words_of_unit text)))))
