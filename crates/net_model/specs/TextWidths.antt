-- The widths of the expressions of a netlist text: one partial function is the rule of widths and
-- the width.
use Rattle.std.specs.Prelude.{ℕ, ◌+◌, ◌-◌, ◌==◌, ◌&&◌, ◌^◌, if◌then◌else◌, List, [], ◌∷◌, Option, Some, None, Bool, true, false, nat_le}
use Rattle.rec_bits.specs.declared.operator.Op2.{Op2}
use Rattle.rec_bits.specs.Operators.{result_width}
use Rattle.grammar.specs.declared.words.Ident.{Ident}
use Rattle.net_model.specs.declared.units.Port.{Port}
use Rattle.net_model.specs.Written.{UnitModel, code, register, memory, net, bus, module_item, part, NetExprModel, named, const, un, bin, cat, slice, zext, sext, read, case, CaseRowsModel, no_rows, row, CaseRestModel, no_rest, rest}
use Rattle.net_model.specs.TextNames.{item_named, port_named, ScopeModel, in_text, in_module}

-- 1 to 64 bits
abbrev pub is_width : ℕ → Bool
is_width width = nat_le 1 width && nat_le width 64

-- a number that so many bits hold
abbrev pub is_below : ℕ → ℕ → Bool
is_below n width = nat_le (n + 1) (2 ^ width)

-- ---- names

abbrev pub port_width : Option Port → Option ℕ
port_width None = None
port_width (Some p) = Some p.width

-- the width of what an item's name stands for: a code's word, a register's output, a net, a bus
abbrev pub value_width : Option UnitModel → Option ℕ
value_width (Some (code name bits size counter)) = Some bits
value_width (Some (register kind name width input when)) = Some width
value_width (Some (net name width value)) = Some width
value_width (Some (bus name width drivers)) = Some width
value_width _ = None

-- the ports of a module
abbrev pub ports_of : Option UnitModel → List Port
ports_of (Some (module_item name ports equations)) = ports
ports_of _ = []

-- the ports of a part's module
abbrev pub part_ports : List UnitModel → Option UnitModel → List Port
part_ports entries (Some (part name of links)) = ports_of (item_named entries of.name)
part_ports entries _ = []

abbrev pub field_width : List UnitModel → List ℕ → Option Ident → Option ℕ
field_width entries name None = value_width (item_named entries name)
field_width entries name (Some field) =
    port_width (port_named true (part_ports entries (item_named entries name)) field.name)

abbrev pub input_width : List Port → List ℕ → Option Ident → Option ℕ
input_width ports name None = port_width (port_named false ports name)
input_width ports name (Some field) = None

-- the width of a name, or of an output of a part; in a module there are its inputs alone
abbrev pub named_width : ScopeModel → List ℕ → Option Ident → Option ℕ
named_width (in_text entries) name field = field_width entries name field
named_width (in_module ports) name field = input_width ports name field

-- the widths of a memory or a file: of a cell, and of an address
pub record MemoryWidthsModel : Type 0 where
  pub cell : ℕ
  pub address : ℕ

abbrev pub memory_of : Option UnitModel → Option MemoryWidthsModel
memory_of (Some (memory space name width size addr_width value addr when)) =
    Some (record { cell = width; address = addr_width })
memory_of _ = None

-- a module reads no memory and no file
abbrev pub memory_widths : ScopeModel → List ℕ → Option MemoryWidthsModel
memory_widths (in_text entries) name = memory_of (item_named entries name)
memory_widths (in_module ports) name = None

-- ---- expressions

abbrev pub sliced : ℕ → ℕ → Option ℕ → Option ℕ
sliced hi lo None = None
sliced hi lo (Some width) = if nat_le lo hi && nat_le (hi + 1) width then Some (hi + 1 - lo) else None

abbrev pub bits_of : Option (ℕ × ℕ) → Option ℕ → Option ℕ
bits_of None width = width
bits_of (Some bits) width = sliced bits.0 bits.1 width

abbrev pub paired : Op2 → Option ℕ → Option ℕ → Option ℕ
paired op (Some a) (Some b) = if a == b then Some (result_width op a) else None
paired op _ _ = None

abbrev pub joined_width : Option ℕ → Option ℕ → Option ℕ
joined_width (Some a) (Some b) = if nat_le (a + b) 64 then Some (a + b) else None
joined_width _ _ = None

abbrev pub extended : ℕ → Option ℕ → Option ℕ
extended width None = None
extended width (Some a) = if is_width width && nat_le (a + 1) width then Some width else None

abbrev pub read_width : Option MemoryWidthsModel → Option ℕ → Option ℕ
read_width (Some m) (Some a) = if m.address == a then Some m.cell else None
read_width _ _ = None

-- the width of the rows that were looked at
pub data SeenModel : Type 0 where
  nothing_yet : SeenModel
  seen : ℕ → SeenModel
  broken_already : SeenModel

-- one more row, or the rest
abbrev pub seen_more : SeenModel → Option ℕ → SeenModel
seen_more nothing_yet (Some width) = seen width
seen_more (seen before) (Some width) = if before == width then seen before else broken_already
seen_more _ _ = broken_already

-- the numbers of a row fit the selector
abbrev pub numbers_fit : ℕ → List ℕ → Bool
numbers_fit width [] = true
numbers_fit width (n ∷ numbers) = is_below n width && numbers_fit width numbers

-- no row was looked at yet, by a selector of a width
abbrev pub seen_first : Option ℕ → SeenModel
seen_first None = broken_already
seen_first (Some width) = nothing_yet

abbrev pub row_seen : Option ℕ → SeenModel → List ℕ → Option ℕ → SeenModel
row_seen None before numbers width = broken_already
row_seen (Some selector) before numbers width =
    if numbers_fit selector numbers then seen_more before width else broken_already

abbrev pub seen_width : SeenModel → Option ℕ
seen_width (seen width) = Some width
seen_width _ = None

-- the width of an expression where it stands, and None where the rule of widths is broken in it
abbrev mutual
  pub wide : ScopeModel → NetExprModel → Option ℕ
  wide s (named name field bits) = bits_of bits (named_width s name.name field)
  wide s (const value width) = if is_width width && is_below value width then Some width else None
  wide s (un op a) = wide s a
  wide s (bin op a b) = paired op (wide s a) (wide s b)
  wide s (cat a b) = joined_width (wide s a) (wide s b)
  wide s (slice a hi lo) = sliced hi lo (wide s a)
  wide s (zext a width) = extended width (wide s a)
  wide s (sext a width) = extended width (wide s a)
  wide s (read name a) = read_width (memory_widths s name.name) (wide s a)
  wide s (case selector rows other) =
      seen_width (seen_rest s (seen_rows s (wide s selector) (seen_first (wide s selector)) rows) other)

  pub seen_rows : ScopeModel → Option ℕ → SeenModel → CaseRowsModel → SeenModel
  seen_rows s selector before no_rows = before
  seen_rows s selector before (row numbers a rows) =
      seen_rows s selector (row_seen selector before numbers (wide s a)) rows

  pub seen_rest : ScopeModel → SeenModel → CaseRestModel → SeenModel
  seen_rest s before no_rest = before
  seen_rest s before (rest a) = seen_more before (wide s a)
