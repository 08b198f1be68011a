-- The view V(N) of a netlist of two data memories: one memory of the cells of both, in which those
-- of the bank stand behind the others (`view_of`). Each net of the netlist is there in its order;
-- before a read stands the net that widens its address by a bit, and for the bank the constant 2^k
-- and their sum. Behind the nets of the memory's item stand its widened address, the constant 1
-- for each write without a `when`, and what joins the writes: a bus of the two values, one of the
-- two addresses, and the `or` of the enables; behind those of the bank's item its address. The
-- memory has the cells of both and takes the joined write, the bank is no storage there, storages
-- behind it have a number less, and the edition is one that no text has. A state is *joined*
-- (`join_state`) where the bank's cells stand behind the memory's.
use Rattle.std.specs.Prelude.{ℕ, zero, suc, ◌+◌, ◌-◌, ◌^◌, ◌==◌, nat_lt, if◌then◌else◌, Bool, true, false, List, [], ◌∷◌, ◌++◌, length, map, option_map, Option, Some, None, slice_get}
use Rattle.std.specs.List.{remove, flat_map}
use Rattle.rec_bits.specs.declared.operator.Op2.TheVariants.{Add, Or}
use Rattle.net_model.specs.declared.hardware.Netlist.{Netlist}
use Rattle.net_model.specs.declared.hardware.Net.{Net}
use Rattle.net_model.specs.declared.hardware.Code.{Code}
use Rattle.net_model.specs.declared.hardware.Storage.{Storage}
use Rattle.net_model.specs.declared.hardware.Storage.TheVariants.{Register, Memory, File}
use Rattle.net_model.specs.declared.hardware.Space.{Space}
use Rattle.net_model.specs.declared.hardware.Space.TheVariants.{Memory as InMemory, File as InFile}
use Rattle.net_model.specs.declared.hardware.Gate.{Gate}
use Rattle.net_model.specs.declared.hardware.Gate.TheVariants.{Word, Reg, Read, Const, Wire, Un, Bin, Slice, Cat, Zext, Sext, Case, Bus}
use Rattle.net_model.specs.declared.states.State.{State}
use Rattle.net_model.specs.Nets.{memory_id, space_at}
use Rattle.bank_view.specs.declared.ports.Port.{Port}
use Rattle.bank_view.specs.declared.slot.Slot.{Slot}
use Rattle.bank_view.specs.declared.slot.Slot.TheVariants.{Kept, MemoryWrite, BankWrite}
use Rattle.bank_view.specs.Banks.{others, memory_port, bank_place, bank_port, addr_bits}

-- ---- accesses: one of the memory is at its address with a zero above it, one of the bank at the
-- sum of that and 2^k

abbrev pub access_nets : Space → Netlist → (name at addr : ℕ) → List Net
access_nets InMemory d name at addr =
    record { width = addr_bits d + 1; name_at = name; gate = Zext addr } ∷ []
access_nets InFile d name at addr =
    record { width = addr_bits d + 1; name_at = name; gate = Zext addr }
    ∷ record { width = addr_bits d + 1; name_at = name; gate = Const (2 ^ addr_bits d) }
    ∷ record { width = addr_bits d + 1; name_at = name; gate = Bin Add at (at + 1) } ∷ []

-- the number of the last of them, the first of which has this one
abbrev pub access_end : Space → ℕ → ℕ
access_end InMemory at = at
access_end InFile at = at + 2

-- ---- numbers: where the nets of V(N) stand that are there for a net, or for a write, of N

-- of the first net that is there for net i, and of those that widen the two writes' addresses
pub record Numbering : Type 0 where
  pub first : ℕ → ℕ
  pub memory : ℕ
  pub bank : ℕ

-- how many nets stand before a net itself
abbrev pub added_to : Netlist → Gate → ℕ
added_to d (Read memory addr) = access_end (space_at d memory) 1
added_to d gate = 0

abbrev pub added_before : Netlist → Option Net → ℕ
added_before d None = 0
added_before d (Some net) = added_to d net.gate

-- how many nets are there for a net
abbrev pub count_for : Netlist → Option Net → ℕ
count_for d None = 0
count_for d (Some net) = added_to d net.gate + 1

-- the number in V(N) of a net of N
abbrev pub net_number : Netlist → Numbering → ℕ → ℕ
net_number d m n = m.first n + added_before d (slice_get d.nets n)

-- and of a storage other than the bank: one less where it stands behind it
abbrev pub less_one : (bank storage : ℕ) → ℕ
less_one bank storage = if nat_lt bank storage then storage - 1 else storage

abbrev pub storage_number : Netlist → ℕ → ℕ
storage_number d storage = less_one (bank_place d) storage

-- ---- nets

abbrev pub renamed_rows : (ℕ → ℕ) → List (ℕ × ℕ) → List (ℕ × ℕ)
renamed_rows p rows = map (λ (row : ℕ × ℕ). (row.0, p row.1)) rows

abbrev pub renamed_drivers : (ℕ → ℕ) → List (ℕ × ℕ) → List (ℕ × ℕ)
renamed_drivers p drivers = map (λ (driver : ℕ × ℕ). (p driver.0, p driver.1)) drivers

-- a gate with the numbers of V(N), where each read is of the one memory; `at` is the first number
-- of the nets that are there for its net
abbrev pub renamed : Netlist → (ℕ → ℕ) → ℕ → Gate → Gate
renamed d p at (Word code) = Word code
renamed d p at (Reg storage) = Reg (storage_number d storage)
renamed d p at (Read memory addr) = Read (memory_id (others d)) (access_end (space_at d memory) at)
renamed d p at (Const c) = Const c
renamed d p at (Wire a) = Wire (p a)
renamed d p at (Un op a) = Un op (p a)
renamed d p at (Bin op a b) = Bin op (p a) (p b)
renamed d p at (Slice of hi lo) = Slice (p of) hi lo
renamed d p at (Cat a b) = Cat (p a) (p b)
renamed d p at (Zext a) = Zext (p a)
renamed d p at (Sext a) = Sext (p a)
renamed d p at (Case sel rows rest) = Case (p sel) (renamed_rows p rows) (option_map p rest)
renamed d p at (Bus drivers) = Bus (renamed_drivers p drivers)

-- the nets that are added for a net, which stand before it
abbrev pub added_nets : Netlist → (ℕ → ℕ) → (name at : ℕ) → Gate → List Net
added_nets d p name at (Read memory addr) = access_nets (space_at d memory) d name at (p addr)
added_nets d p name at gate = []

abbrev pub nets_for : Netlist → (ℕ → ℕ) → ℕ → Option Net → List Net
nets_for d p at None = []
nets_for d p at (Some net) =
    added_nets d p net.name_at at net.gate ++ record net { gate = renamed d p at net.gate } ∷ []

-- ---- the two writes

-- a write without a `when` is enabled by the constant 1
abbrev pub enable_nets : ℕ → Option ℕ → List Net
enable_nets name None = record { width = 1; name_at = name; gate = Const 1 } ∷ []
enable_nets name (Some when) = []

abbrev pub enable_count : Option ℕ → ℕ
enable_count None = 1
enable_count (Some when) = 0

abbrev pub enable_number : (ℕ → ℕ) → ℕ → Option ℕ → ℕ
enable_number p at None = at
enable_number p at (Some when) = p when

-- the numbers of the enables of both writes, and that of the first of the three nets that join them
abbrev pub memory_enable : Netlist → Numbering → ℕ
memory_enable d m = enable_number (net_number d m) (m.memory + 1) (memory_port d).when

abbrev pub bank_enable : Netlist → Numbering → ℕ
bank_enable d m =
    enable_number (net_number d m) (m.memory + 1 + enable_count (memory_port d).when) (bank_port d).when

abbrev pub join_number : Netlist → Numbering → ℕ
join_number d m = m.memory + 1 + enable_count (memory_port d).when + enable_count (bank_port d).when

-- a bus of the values, a bus of the addresses and an `or` of the enables
abbrev pub join_nets : Netlist → Numbering → List Net
join_nets d m =
    record {
      width = (memory_port d).width;
      name_at = (memory_port d).name_at;
      gate = Bus ((net_number d m (memory_port d).value, memory_enable d m)
          ∷ (net_number d m (bank_port d).value, bank_enable d m) ∷ []);
    }
    ∷ record {
      width = addr_bits d + 1;
      name_at = (memory_port d).name_at;
      gate = Bus ((m.memory, memory_enable d m) ∷ (m.bank + 2, bank_enable d m) ∷ []);
    }
    ∷ record { width = 1; name_at = (memory_port d).name_at; gate = Bin Or (memory_enable d m) (bank_enable d m) } ∷ []

-- the nets that have the memory's item
abbrev pub memory_nets : Netlist → Numbering → List Net
memory_nets d m =
    access_nets InMemory d (memory_port d).name_at m.memory (net_number d m (memory_port d).addr)
    ++ (enable_nets (memory_port d).name_at (memory_port d).when
    ++ (enable_nets (memory_port d).name_at (bank_port d).when ++ join_nets d m))

-- those that have the bank's
abbrev pub bank_nets : Netlist → Numbering → List Net
bank_nets d m = access_nets InFile d (bank_port d).name_at m.bank (net_number d m (bank_port d).addr)

-- ---- in their places

-- what nets of V(N) are there for: net n of N, or a write; each has the offset of its item's name
abbrev pub slot_at : Netlist → Slot → ℕ
slot_at d (Kept n name) = name
slot_at d MemoryWrite = (memory_port d).name_at
slot_at d BankWrite = (bank_port d).name_at

-- the nets of N in their order
abbrev pub kept_from : ℕ → List Net → List Slot
kept_from n [] = []
kept_from n (net ∷ nets) = Kept n net.name_at ∷ kept_from (n + 1) nets

-- a write stands behind the nets of its own item and of those before it
abbrev pub insert_slot : Netlist → Slot → List Slot → List Slot
insert_slot d slot [] = slot ∷ []
insert_slot d slot (x ∷ slots) =
    if nat_lt (slot_at d slot) (slot_at d x) then (slot ∷ x ∷ slots) else (x ∷ insert_slot d slot slots)

abbrev pub slots_of : Netlist → List Slot
slots_of d = insert_slot d MemoryWrite (insert_slot d BankWrite (kept_from 0 d.nets))

abbrev pub slot_nets : Netlist → Numbering → Slot → List Net
slot_nets d m (Kept n name) = nets_for d (net_number d m) (m.first n) (slice_get d.nets n)
slot_nets d m MemoryWrite = memory_nets d m
slot_nets d m BankWrite = bank_nets d m

-- how many they are
abbrev pub slot_size : Netlist → Slot → ℕ
slot_size d (Kept n name) = count_for d (slice_get d.nets n)
slot_size d MemoryWrite = 1 + enable_count (memory_port d).when + enable_count (bank_port d).when + 3
slot_size d BankWrite = 3

-- how many stand before the first slot that passes a test
abbrev pub before : Netlist → (Slot → Bool) → List Slot → ℕ
before d test [] = 0
before d test (slot ∷ slots) = if test slot then 0 else (slot_size d slot + before d test slots)

abbrev pub is_kept : ℕ → Slot → Bool
is_kept n (Kept i name) = i == n
is_kept n _ = false

abbrev pub is_memory_write : Slot → Bool
is_memory_write MemoryWrite = true
is_memory_write _ = false

abbrev pub is_bank_write : Slot → Bool
is_bank_write BankWrite = true
is_bank_write _ = false

abbrev pub numbering_of : Netlist → Numbering
numbering_of d = record {
  first = λ n. before d (is_kept n) (slots_of d);
  memory = before d is_memory_write (slots_of d);
  bank = before d is_bank_write (slots_of d);
}

-- ---- the view

-- a register takes the nets of its numbers, the memory what the joined writes give
abbrev pub joined : Netlist → Numbering → Storage → Storage
joined d m (Register name width input when) =
    Register name width (net_number d m input) (option_map (net_number d m) when)
joined d m (Memory cells) = Memory (record {
  name = cells.name;
  name_at = cells.name_at;
  width = cells.width;
  size = 2 ^ addr_bits d + (bank_port d).size;
  addr_width = addr_bits d + 1;
  value = join_number d m;
  addr = join_number d m + 1;
  when = Some (join_number d m + 2);
})
joined d m (File cells) = File cells

abbrev pub renamed_code : Netlist → Code → Code
renamed_code d code = record code { counter = storage_number d code.counter }

-- the edition of views: no text has it, and N6 asks for nothing that an edition adds
abbrev pub view_edition : ℕ
view_edition = 5

abbrev pub view_by : Netlist → Numbering → Netlist
view_by d m = record {
  nets = flat_map (slot_nets d m) (slots_of d);
  storages = map (joined d m) (others d);
  codes = map (renamed_code d) d.codes;
  edition = view_edition;
  special = None;
}

abbrev pub view_of : Netlist → Netlist
view_of d = view_by d (numbering_of d)

-- the state of V(N) that a state of N is: without an entry for the bank, whose cells stand behind
-- the memory's
abbrev pub join_state : Netlist → State → State
join_state d s = record { regs = remove s.regs (bank_place d); cells = s.cells ++ s.file; file = [] }
