-- The rules that a checked netlist keeps, each said of the netlist alone. The rules N10, N12 and
-- N13 speak of all instruction words and are asked later. A mode is a register of 2 bits at most.
-- What is *special* in a netlist is its mode or its bank, by its edition, and none where N6 lacks
-- it. A bank is beside the memory (`HasBankBeside`) where it is the only file, has the memory's
-- widths and at most as many cells as an address reaches, the memory has a cell for each address,
-- and an address has 15 bits at most and a cell 2 more. N14 isn't asked of it.
use Rattle.std.specs.Prelude.{ℕ, zero, suc, ◌+◌, ◌==◌, if◌then◌else◌, ◌^◌, ◌<◌, ◌≤◌, ◌≡◌, ◌++◌, ◌&&◌, ◌||◌, not, nat_eq, List, [], ◌∷◌, length, map, Option, Some, None, slice_get, Bool, true, false, IsTrue, is_some}
use Rattle.std.specs.List.{AllByRecursion, IsDistinct, list_any}
use Rattle.std.specs.Cmp.Lexicographic.{pointwise}
use Rattle.rec_bits.specs.declared.operator.Op1.TheVariants.{Not}
use Rattle.rec_bits.specs.declared.operator.Op2.TheVariants.{And, Or, Xor, Eq}
use Rattle.net_model.specs.declared.hardware.Netlist.{Netlist}
use Rattle.net_model.specs.declared.hardware.Net.{Net}
use Rattle.net_model.specs.declared.hardware.Code.{Code}
use Rattle.net_model.specs.declared.hardware.Storage.{Storage}
use Rattle.net_model.specs.declared.hardware.Storage.TheVariants.{Register, Memory, File}
use Rattle.net_model.specs.declared.hardware.Cells.{Cells}
use Rattle.net_model.specs.declared.hardware.Space.{Space}
use Rattle.net_model.specs.declared.hardware.Space.TheVariants.{Memory as InMemory, File as InFile}
use Rattle.net_model.specs.declared.hardware.Gate.{Gate}
use Rattle.net_model.specs.declared.hardware.Gate.TheVariants.{Word, Reg, Read, Const, Wire, Un, Bin, Slice, Cat, Zext, Sext, Case}
use Rattle.net_model.specs.Editions.{is_banked, is_moded}
use Rattle.net_model.specs.Nets.{width_at, gate_nets, storage_bits, IsRegister, HasCells, counter_of, counter_width, memory_size, memory_width, size_in, width_in, addr_width_in, array_in, is_in, space_at, storage_array, storage_name}
use Rattle.net_model.specs.LimitRules.{most_cells, most_nets}
use Rattle.rec_bits.specs.Faults.{gather}
use Rattle.net_model.specs.Widths.{GateFits, HasWidth, StorageFits}
use Rattle.net_model.specs.Symbolic.{all_nets, is_static}
use Rattle.net_model.specs.Control.{AllPass, enables, selectors, control_places, is_selector}
use Rattle.net_model.specs.Order.{IsOrder}
use Rattle.rec_bits.specs.Operators.{IsWidth}

-- what a checked netlist is seen as
pub record Ordered : Type 0 where
  pub netlist : Netlist
  pub order : List ℕ

-- ---- N1: names

-- the names of all storages and codes
abbrev pub storage_names : Netlist → List (List ℕ)
storage_names netlist = map storage_name netlist.storages ++ map (λ (code : Code). code.name) netlist.codes

-- no two storages or codes have one name
abbrev pub NamesDiffer : Netlist → Type 0
NamesDiffer netlist = IsDistinct (pointwise nat_eq) (storage_names netlist)

-- ---- N2 to N4: what a number stands for, widths, and the rows of a case

-- a read is of a memory or a file: it has the width of the cells, and its address that of the
-- addresses
abbrev pub ArrayKeeps : Netlist → ℕ → ℕ → Option Cells → Type 0
ArrayKeeps netlist width addr None = ⊥
ArrayKeeps netlist width addr (Some cells) = (cells.width ≡ width) × HasWidth netlist addr cells.addr_width

abbrev pub ReadKeeps : Netlist → ℕ → ℕ → Option Storage → Type 0
ReadKeeps netlist width addr None = ⊥
ReadKeeps netlist width addr (Some storage) = ArrayKeeps netlist width addr (storage_array storage)

-- the numbers of a case's rows
abbrev pub row_numbers : List (ℕ × ℕ) → List ℕ
row_numbers rows = map (λ (row : ℕ × ℕ). row.0) rows

-- a case without a rest has a row for each number of so many bits
abbrev pub IsWhole : ℕ → List (ℕ × ℕ) → Option ℕ → Type 0
IsWhole bits rows None = (k : ℕ) → k < 2 ^ bits → IsTrue (list_any (nat_eq k) (row_numbers rows))
IsWhole bits rows (Some rest) = Unit {0}

-- each number in a gate stands for a net, a code or a storage as its place asks for, the widths
-- fit, and a case has no number twice and a rest or every number
abbrev pub GateKeeps : Netlist → ℕ → Gate → Type 0
GateKeeps netlist width (Word code) = (code < length netlist.codes) × GateFits netlist width (Word code)
GateKeeps netlist width (Reg id) = IsRegister (slice_get netlist.storages id) × GateFits netlist width (Reg id)
GateKeeps netlist width (Read memory addr) = ReadKeeps netlist width addr (slice_get netlist.storages memory)
GateKeeps netlist width (Case sel rows rest) =
    GateFits netlist width (Case sel rows rest) × IsDistinct nat_eq (row_numbers rows)
    × IsWhole (width_at netlist sel) rows rest
GateKeeps netlist width gate = GateFits netlist width gate

abbrev pub NetKeeps : Netlist → Option Net → Type 0
NetKeeps netlist None = Unit {0}
NetKeeps netlist (Some net) = IsWidth net.width × GateKeeps netlist net.width net.gate

-- what feeds a storage are nets of its widths
abbrev pub StorageKeeps : Netlist → Storage → Type 0
StorageKeeps netlist (Register name width input when) =
    IsWidth width × StorageFits netlist (Register name width input when)
StorageKeeps netlist (Memory cells) =
    IsWidth cells.width × IsWidth cells.addr_width × StorageFits netlist (Memory cells)
StorageKeeps netlist (File cells) =
    IsWidth cells.width × IsWidth cells.addr_width × StorageFits netlist (File cells)

-- a register counts through the code
abbrev pub CodeKeeps : Netlist → Code → Type 0
CodeKeeps netlist code = IsWidth code.bits × IsRegister (slice_get netlist.storages code.counter)

-- a mode is a register of 2 bits at most
abbrev pub IsMode : Netlist → Option ℕ → Type 0
IsMode netlist None = Unit {0}
IsMode netlist (Some id) =
    IsRegister (slice_get netlist.storages id) × (storage_bits (slice_get netlist.storages id) ≤ 2)

-- a bank is a file
abbrev pub IsBank : Netlist → Option ℕ → Type 0
IsBank netlist None = Unit {0}
IsBank netlist (Some id) = HasCells InFile (slice_get netlist.storages id)

-- what is special is the bank, in a netlist that may have one, and otherwise the mode
abbrev pub IsSpecialIf : Bool → Netlist → Option ℕ → Type 0
IsSpecialIf true netlist special = IsBank netlist special
IsSpecialIf false netlist special = IsMode netlist special

abbrev pub IsSpecial : Netlist → Type 0
IsSpecial netlist = IsSpecialIf (is_banked netlist.edition) netlist netlist.special

-- ---- N11: limits

abbrev pub register_count : List Storage → ℕ
register_count [] = 0
register_count (Register name width input when ∷ storages) = register_count storages + 1
register_count (Memory cells ∷ storages) = register_count storages
register_count (File cells ∷ storages) = register_count storages

abbrev pub count_in : Space → List Storage → ℕ
count_in space [] = 0
count_in space (storage ∷ storages) = (if is_in space storage then 1 else 0) + count_in space storages

abbrev pub memory_count : List Storage → ℕ
memory_count storages = count_in InMemory storages

-- a memory has at most 65,536 cells, and a file 32, or as many as a memory where it is a bank
abbrev pub HasFewCells : ℕ → Storage → Type 0
HasFewCells edition (Register name width input when) = Unit {0}
HasFewCells edition (Memory cells) = cells.size ≤ most_cells edition InMemory
HasFewCells edition (File cells) = cells.size ≤ most_cells edition InFile

-- at most 4,096 nets, or 1,000 beside a bank, 13 registers, so many cells of a memory and of a file,
-- and 65,536 words of a code
pub record IsWithinLimits (netlist : Netlist) : Type 0 where
  pub nets : length netlist.nets ≤ most_nets netlist.edition
  pub registers : register_count netlist.storages ≤ 13
  pub cells : AllByRecursion (HasFewCells netlist.edition) netlist.storages
  pub words : AllByRecursion (λ (code : Code). code.words ≤ 65536) netlist.codes

-- the rules N1 to N4 and N11, which a netlist keeps as it is made of a text
pub record IsWellFormed (netlist : Netlist) : Type 0 where
  pub names : NamesDiffer netlist
  pub nets : (n : ℕ) → NetKeeps netlist (slice_get netlist.nets n)
  pub storages : AllByRecursion (StorageKeeps netlist) netlist.storages
  pub codes : AllByRecursion (CodeKeeps netlist) netlist.codes
  pub special : IsSpecial netlist
  pub limits : IsWithinLimits netlist

-- ---- N6: what a processor has one of

-- a program counter takes its input at each clock and has at most 16 bits
abbrev pub IsCounter : Option Storage → Type 0
IsCounter (Some (Register name width input None)) = width ≤ 16
IsCounter _ = ⊥

-- how many words the code has
abbrev pub code_size : List Code → ℕ
code_size [] = 0
code_size (code ∷ codes) = code.words

-- how wide the data memory's addresses are
abbrev pub memory_addr_width : List Storage → ℕ
memory_addr_width storages = addr_width_in InMemory storages

-- at least 1 and no more than so many bits reach
abbrev pub IsAddressed : ℕ → ℕ → Type 0
IsAddressed size bits = (1 ≤ size) × (size ≤ 2 ^ bits)

abbrev pub HasOneCode : Netlist → Type 0
HasOneCode netlist = length netlist.codes ≡ 1

abbrev pub HasOneMemory : Netlist → Type 0
HasOneMemory netlist = memory_count netlist.storages ≡ 1

abbrev pub HasCounter : Netlist → Type 0
HasCounter netlist = IsCounter (slice_get netlist.storages (counter_of netlist.codes))

-- the program counter reaches all words, and an address all cells
abbrev pub HasSizes : Netlist → Type 0
HasSizes netlist =
    IsAddressed (code_size netlist.codes) (counter_width netlist)
    × IsAddressed (memory_size netlist.storages) (memory_addr_width netlist.storages)

-- a cell can hold an address
abbrev pub HasAddress : Netlist → Type 0
HasAddress netlist = memory_addr_width netlist.storages ≤ memory_width netlist.storages

-- how many files a netlist of an edition has; which of them are banks is asked apart
abbrev pub files_of : ℕ → ℕ
files_of edition = if edition == 2 then 1 else 0

-- an address reaches all cells
abbrev pub IsReached : Option Cells → Type 0
IsReached None = Unit {0}
IsReached (Some cells) = IsAddressed cells.size cells.addr_width

-- as many files as the edition of a netlist has, and an address reaches all cells
abbrev pub HasFiles : Netlist → Type 0
HasFiles netlist =
    (count_in InFile netlist.storages ≡ files_of netlist.edition) × IsReached (array_in InFile netlist.storages)

abbrev pub HasFileIf : Bool → Netlist → Type 0
HasFileIf true netlist = Unit {0}
HasFileIf false netlist = HasFiles netlist

-- its edition's file; a bank is none
abbrev pub HasFile : Netlist → Type 0
HasFile netlist = HasFileIf (is_banked netlist.edition) netlist

-- there is a mode, where one is asked for
abbrev pub HasModeIf : Bool → Option ℕ → Type 0
HasModeIf true None = ⊥
HasModeIf true (Some id) = Unit {0}
HasModeIf false special = Unit {0}

-- a mode, where its edition has one
abbrev pub HasMode : Netlist → Type 0
HasMode netlist = HasModeIf (is_moded netlist.edition) netlist.special

-- The bank is the only file, of the memory's widths and at most as large as an address reaches, and
-- the memory has a cell for each address; a cell holds an address and one bit more of both, with
-- room for a sign.
pub record HasBankBeside (storages : List Storage) (bank : Option ℕ) : Type 0 where
  pub special : IsTrue (is_some bank)
  pub one : count_in InFile storages ≡ 1
  pub width : width_in InFile storages ≡ memory_width storages
  pub addresses : addr_width_in InFile storages ≡ memory_addr_width storages
  pub size : IsAddressed (size_in InFile storages) (memory_addr_width storages)
  pub full : memory_size storages ≡ 2 ^ memory_addr_width storages
  pub few : memory_addr_width storages ≤ 15
  pub narrow : memory_addr_width storages + 2 ≤ memory_width storages

abbrev pub HasBankIf : Bool → Netlist → Type 0
HasBankIf true netlist = HasBankBeside netlist.storages netlist.special
HasBankIf false netlist = Unit {0}

-- a bank beside the memory, where its edition has one
abbrev pub HasBank : Netlist → Type 0
HasBank netlist = HasBankIf (is_banked netlist.edition) netlist

-- a code, a memory, a program counter and the edition's file, mode or bank, of sizes that fit
-- together
pub record HasRoles (netlist : Netlist) : Type 0 where
  pub code : HasOneCode netlist
  pub memory : HasOneMemory netlist
  pub counter : HasCounter netlist
  pub sizes : HasSizes netlist
  pub address : HasAddress netlist
  pub file : HasFile netlist
  pub mode : HasMode netlist
  pub bank : HasBank netlist

-- ---- N7: enables depend on the instruction word alone

-- each write enable and each bus enable is static
abbrev pub HasStaticEnables : Netlist → Type 0
HasStaticEnables netlist = AllPass (is_static netlist) (enables netlist)

-- ---- N8: how control is computed

-- the instruction word, constants, wires, slice, cat, zext, sext, and, or, xor, not, eq and case
abbrev pub is_control_gate : Gate → Bool
is_control_gate (Word code) = true
is_control_gate (Const c) = true
is_control_gate (Wire a) = true
is_control_gate (Slice of hi lo) = true
is_control_gate (Cat a b) = true
is_control_gate (Zext a) = true
is_control_gate (Sext a) = true
is_control_gate (Bin And a b) = true
is_control_gate (Bin Or a b) = true
is_control_gate (Bin Xor a b) = true
is_control_gate (Bin Eq a b) = true
is_control_gate (Un Not a) = true
is_control_gate (Case sel rows rest) = true
is_control_gate _ = false

-- where f tells of the nets that the gate names
abbrev pub net_control : (ℕ → Bool) → Option Net → Bool
net_control f None = true
net_control f (Some net) = is_control_gate net.gate && all_nets f (gate_nets net.gate)

abbrev pub control_within : ℕ → Netlist → ℕ → Bool
control_within zero netlist n = true
control_within (suc k) netlist n = net_control (control_within k netlist) (slice_get netlist.nets n)

-- the net and all that it depends on have such gates alone
abbrev pub is_control : Netlist → ℕ → Bool
is_control netlist n = control_within (length netlist.nets) netlist n

-- a net that has such gates alone if it is static
abbrev pub is_plain : Netlist → ℕ → Bool
is_plain netlist n = not (is_static netlist n) || is_control netlist n

-- a static net in a control place uses these gates alone
abbrev pub HasPlainControl : Netlist → Type 0
HasPlainControl netlist = AllPass (is_plain netlist) (control_places netlist)

-- ---- N9: selectors

-- a case's selector is static or one bit wide
abbrev pub HasNarrowSelectors : Netlist → Type 0
HasNarrowSelectors netlist = AllPass (is_selector netlist) (selectors netlist)

-- ---- N14: the addresses of a file depend on the instruction word alone

abbrev pub addr_in_file : Space → ℕ → List ℕ
addr_in_file InMemory addr = []
addr_in_file InFile addr = addr ∷ []

abbrev pub storage_file_addrs : Storage → List ℕ
storage_file_addrs (File cells) = cells.addr ∷ []
storage_file_addrs _ = []

abbrev pub gate_file_addrs : Netlist → Gate → List ℕ
gate_file_addrs netlist (Read memory addr) = addr_in_file (space_at netlist memory) addr
gate_file_addrs netlist _ = []

-- the addresses at which the files are written and read
abbrev pub all_file_addrs : Netlist → List ℕ
all_file_addrs netlist =
    gather storage_file_addrs netlist.storages
    ++ gather (λ (net : Net). gate_file_addrs netlist net.gate) netlist.nets

-- those of the register file: a bank is none
abbrev pub file_addrs : Netlist → List ℕ
file_addrs netlist = if is_banked netlist.edition then [] else all_file_addrs netlist

abbrev pub HasStaticFileAddrs : Netlist → Type 0
HasStaticFileAddrs netlist = AllPass (is_static netlist) (file_addrs netlist)

-- ---- all of them

-- the rules N1 to N9, N11 and N14
pub record KeepsRules (netlist : Netlist) (order : List ℕ) : Type 0 where
  -- N1 to N4 and N11
  pub formed : IsWellFormed netlist
  -- N5
  pub ordered : IsOrder netlist order
  -- N6
  pub roles : HasRoles netlist
  -- N7
  pub enables : HasStaticEnables netlist
  -- N8
  pub control : HasPlainControl netlist
  -- N9
  pub selectors : HasNarrowSelectors netlist
  -- N14
  pub addresses : HasStaticFileAddrs netlist
