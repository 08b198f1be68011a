-- The netlist that the items of a text say. The netlist of a text, net by net; a mode item gives a
-- register, which is the netlist's mode where there is no other such item and it has 2 bits at
-- most. A bank gives a file, which is special where it is the only one; without a write it says
-- three zeros, for its value, its address and its enable (`IsBank` of `Grammar`).
use Rattle.std.specs.Prelude.{ℕ, ◌+◌, ◌-◌, nat_le, if◌then◌else◌, List, [], ◌∷◌, ◌++◌, map, Option, Some, None}
use Rattle.grammar.specs.declared.words.Ident.{Ident}
use Rattle.net_model.specs.declared.units.Port.{Port}
use Rattle.net_model.specs.declared.hardware.Netlist.{Netlist}
use Rattle.net_model.specs.declared.hardware.Net.{Net}
use Rattle.net_model.specs.declared.hardware.Code.{Code}
use Rattle.net_model.specs.declared.hardware.Storage.{Storage}
use Rattle.net_model.specs.declared.hardware.Storage.TheVariants.{Register, Memory, File}
use Rattle.net_model.specs.declared.hardware.Cells.{Cells}
use Rattle.net_model.specs.declared.hardware.Space.{Space}
use Rattle.net_model.specs.declared.units.RegisterKind.TheVariants.{Mode as AsMode}
use Rattle.net_model.specs.declared.hardware.Space.TheVariants.{Memory as InMemory, File as InFile}
use Rattle.net_model.specs.declared.hardware.Gate.{Gate}
use Rattle.net_model.specs.declared.hardware.Gate.TheVariants.{Word, Reg, Read, Const, Wire, Un, Bin, Slice, Cat, Zext, Sext, Case, Bus}
use Rattle.net_model.specs.Editions.{is_banked, is_moded}
use Rattle.net_model.specs.Written.{UnitsModel, UnitModel, code, register, memory, net, bus, module_item, part, NetExprModel, named, const, un, bin, cat, slice, zext, sext, read, case, CaseRowsModel, no_rows, row, CaseRestModel, no_rest, rest}
use Rattle.net_model.specs.TextNames.{item_named}
use Rattle.net_model.specs.TextWidths.{wide, ports_of}
use Rattle.net_model.specs.Numbering.{count, count_rows, bound, count_input, count_inputs, count_outputs, count_equation, port_wires, equations_of, count_item, count_storages, SiteModel, of_text, of_part, scope_at, storage_named, memory_at, net_named}

-- ---- expressions

-- the net that has an expression's value, where the expression's own nets begin at a number
abbrev pub out_of : SiteModel → ℕ → NetExprModel → ℕ
out_of site start (named name field None) = net_named site name.name field
out_of site start a = start + count a - 1

abbrev pub width_or_none : Option ℕ → ℕ
width_or_none None = 0
width_or_none (Some width) = width

-- an expression's own net, of the item whose name has an offset: it has the expression's width
abbrev pub net_of : SiteModel → ℕ → NetExprModel → Gate → Net
net_of site at a gate = record { width = width_or_none (wide (scope_at site) a); name_at = at; gate = gate }

-- the rows of a case, by their numbers
abbrev pub row_pairs : SiteModel → ℕ → CaseRowsModel → List (ℕ × ℕ)
row_pairs site start no_rows = []
row_pairs site start (row numbers a rows) =
    map (λ (n : ℕ). (n, out_of site start a)) numbers ++ row_pairs site (start + count a) rows

abbrev pub rest_out : SiteModel → ℕ → CaseRestModel → Option ℕ
rest_out site start no_rest = None
rest_out site start (rest a) = Some (out_of site start a)

-- the nets of an expression, in the order of writing and inner ones first
abbrev mutual
  pub elaborated : SiteModel → ℕ → ℕ → NetExprModel → List Net
  elaborated site at start (named name field None) = []
  elaborated site at start (named name field (Some bits)) =
      net_of site at (named name field (Some bits)) (Slice (net_named site name.name field) bits.0 bits.1) ∷ []
  elaborated site at start (const value width) = net_of site at (const value width) (Const value) ∷ []
  elaborated site at start (un op a) =
      elaborated site at start a ++ net_of site at (un op a) (Un op (out_of site start a)) ∷ []
  elaborated site at start (bin op a b) =
      elaborated site at start a ++ elaborated site at (start + count a) b
      ++ net_of site at (bin op a b) (Bin op (out_of site start a) (out_of site (start + count a) b)) ∷ []
  elaborated site at start (cat a b) =
      elaborated site at start a ++ elaborated site at (start + count a) b
      ++ net_of site at (cat a b) (Cat (out_of site start a) (out_of site (start + count a) b)) ∷ []
  elaborated site at start (slice a hi lo) =
      elaborated site at start a ++ net_of site at (slice a hi lo) (Slice (out_of site start a) hi lo) ∷ []
  elaborated site at start (zext a width) =
      elaborated site at start a ++ net_of site at (zext a width) (Zext (out_of site start a)) ∷ []
  elaborated site at start (sext a width) =
      elaborated site at start a ++ net_of site at (sext a width) (Sext (out_of site start a)) ∷ []
  elaborated site at start (read name a) =
      elaborated site at start a
      ++ net_of site at (read name a) (Read (memory_at site name.name) (out_of site start a)) ∷ []
  elaborated site at start (case selector rows other) =
      elaborated site at start selector ++ nets_of_rows site at (start + count selector) rows
      ++ nets_of_rest site at (start + count selector + count_rows rows) other
      ++ net_of site at (case selector rows other)
      (Case (out_of site start selector) (row_pairs site (start + count selector) rows)
      (rest_out site (start + count selector + count_rows rows) other))
      ∷ []

  pub nets_of_rows : SiteModel → ℕ → ℕ → CaseRowsModel → List Net
  nets_of_rows site at start no_rows = []
  nets_of_rows site at start (row numbers a rows) =
      elaborated site at start a ++ nets_of_rows site at (start + count a) rows

  pub nets_of_rest : SiteModel → ℕ → ℕ → CaseRestModel → List Net
  nets_of_rest site at start no_rest = []
  nets_of_rest site at start (rest a) = elaborated site at start a

abbrev pub nets_if : SiteModel → ℕ → ℕ → Option NetExprModel → List Net
nets_if site at start None = []
nets_if site at start (Some a) = elaborated site at start a

abbrev pub out_if : SiteModel → ℕ → Option NetExprModel → Option ℕ
out_if site start None = None
out_if site start (Some a) = Some (out_of site start a)

-- ---- buses

abbrev pub elaborated_drivers : SiteModel → ℕ → ℕ → List (NetExprModel × NetExprModel) → List Net
elaborated_drivers site at start [] = []
elaborated_drivers site at start (driver ∷ drivers) =
    elaborated site at start driver.0 ++ elaborated site at (start + count driver.0) driver.1
    ++ elaborated_drivers site at (start + count driver.0 + count driver.1) drivers

abbrev pub driver_pairs : SiteModel → ℕ → List (NetExprModel × NetExprModel) → List (ℕ × ℕ)
driver_pairs site start [] = []
driver_pairs site start (driver ∷ drivers) =
    (out_of site start driver.0, out_of site (start + count driver.0) driver.1)
    ∷ driver_pairs site (start + count driver.0 + count driver.1) drivers

-- ---- parts

-- an item's own net, which has a written width
abbrev pub plain_net : ℕ → ℕ → Gate → Net
plain_net at width gate = record { width = width; name_at = at; gate = gate }

-- what a port's expression gives; a port without an expression has none
abbrev pub bound_out : SiteModel → ℕ → Option NetExprModel → ℕ
bound_out site start None = 0
bound_out site start (Some a) = out_of site start a

-- the nets of an input: those of its link, then its wire
abbrev pub input_nets : SiteModel → ℕ → ℕ → List (Ident × NetExprModel) → Port → List Net
input_nets site at start links port =
    if port.output then []
    else nets_if site at start (bound links port.name.name)
    ++ plain_net at port.width (Wire (bound_out site start (bound links port.name.name))) ∷ []

abbrev pub inputs_nets : SiteModel → ℕ → ℕ → List (Ident × NetExprModel) → List Port → List Net
inputs_nets site at start links [] = []
inputs_nets site at start links (port ∷ ports) =
    input_nets site at start links port ++ inputs_nets site at (start + count_input links port) links ports

-- the wire of an output, whose equation's nets begin at a number
abbrev pub output_wire : SiteModel → ℕ → ℕ → List (Ident × NetExprModel) → Port → List Net
output_wire site at start equations port =
    if port.output
    then plain_net at port.width (Wire (bound_out site start (bound equations port.name.name))) ∷ []
    else []

abbrev pub output_wires : SiteModel → ℕ → ℕ → List (Ident × NetExprModel) → List Port → List Net
output_wires site at start equations [] = []
output_wires site at start equations (port ∷ ports) =
    output_wire site at start equations port
    ++ output_wires site at (start + count_equation equations port) equations ports

-- the nets of an output's equation
abbrev pub equation_nets : SiteModel → ℕ → ℕ → List (Ident × NetExprModel) → Port → List Net
equation_nets site at start equations port =
    if port.output then nets_if site at start (bound equations port.name.name) else []

abbrev pub equations_nets : SiteModel → ℕ → ℕ → List (Ident × NetExprModel) → List Port → List Net
equations_nets site at start equations [] = []
equations_nets site at start equations (port ∷ ports) =
    equation_nets site at start equations port
    ++ equations_nets site at (start + count_equation equations port) equations ports

-- inside a part the names of the module's inputs stand for their wires
abbrev pub inside : ℕ → List (Ident × NetExprModel) → List Port → SiteModel
inside start links ports = of_part ports (port_wires start (start + count_inputs links ports) links ports)

-- the inputs, then the wires of the outputs, then the equations
abbrev pub part_nets : List UnitModel → ℕ → ℕ → List (Ident × NetExprModel) → List Port → List (Ident × NetExprModel) → List Net
part_nets text at start links ports equations =
    inputs_nets (of_text text) at start links ports
    ++ output_wires (inside start links ports) at
    (start + count_inputs links ports + count_outputs ports) equations ports
    ++ equations_nets (inside start links ports) at
    (start + count_inputs links ports + count_outputs ports) equations ports

-- ---- items

-- the nets of an item, where a net, a storage and a code have these numbers
abbrev pub item_nets : List UnitModel → ℕ → ℕ → ℕ → UnitModel → List Net
item_nets text start storage number (code name bits size counter) = plain_net name.at bits (Word number) ∷ []
item_nets text start storage number (register kind name width input when) =
    elaborated (of_text text) name.at start input ++ nets_if (of_text text) name.at (start + count input) when
    ++ plain_net name.at width (Reg storage) ∷ []
item_nets text start storage number (memory space name width size addr_width value addr when) =
    elaborated (of_text text) name.at start value ++ elaborated (of_text text) name.at (start + count value) addr
    ++ nets_if (of_text text) name.at (start + count value + count addr) when
item_nets text start storage number (net name width value) =
    elaborated (of_text text) name.at start value
    ++ plain_net name.at width (Wire (out_of (of_text text) start value)) ∷ []
item_nets text start storage number (bus name width drivers) =
    elaborated_drivers (of_text text) name.at start drivers
    ++ plain_net name.at width (Bus (driver_pairs (of_text text) start drivers)) ∷ []
item_nets text start storage number (module_item name ports equations) = []
item_nets text start storage number (part name of links) =
    part_nets text name.at start links (ports_of (item_named text of.name)) (equations_of (item_named text of.name))

-- the storage of a space with these cells
abbrev pub storage_in : Space → Cells → Storage
storage_in InMemory cells = Memory cells
storage_in InFile cells = File cells

abbrev pub item_storages : List UnitModel → ℕ → UnitModel → List Storage
item_storages text start (register kind name width input when) =
    Register name.name width (out_of (of_text text) start input) (out_if (of_text text) (start + count input) when) ∷ []
item_storages text start (memory space name width size addr_width value addr when) =
    storage_in space (record {
      name = name.name;
      name_at = name.at;
      width = width;
      size = size;
      addr_width = addr_width;
      value = out_of (of_text text) start value;
      addr = out_of (of_text text) (start + count value) addr;
      when = out_if (of_text text) (start + count value + count addr) when;
    })
    ∷ []
item_storages text start _ = []

abbrev pub item_codes : List UnitModel → UnitModel → List Code
item_codes text (code name bits size counter) =
    record { name = name.name; bits = bits; words = size; counter = storage_named text counter.name } ∷ []
item_codes text _ = []

abbrev pub count_codes : UnitModel → ℕ
count_codes (code name bits size counter) = 1
count_codes _ = 0

-- ---- texts

abbrev pub nets_from : List UnitModel → ℕ → ℕ → ℕ → List UnitModel → List Net
nets_from text start storage number [] = []
nets_from text start storage number (e ∷ entries) =
    item_nets text start storage number e
    ++ nets_from text (start + count_item text e) (storage + count_storages e) (number + count_codes e) entries

abbrev pub storages_from : List UnitModel → ℕ → List UnitModel → List Storage
storages_from text start [] = []
storages_from text start (e ∷ entries) =
    item_storages text start e ++ storages_from text (start + count_item text e) entries

abbrev pub codes_from : List UnitModel → List UnitModel → List Code
codes_from text [] = []
codes_from text (e ∷ entries) = item_codes text e ++ codes_from text entries

-- the modes among items: the storage and the width of each, where the first item's storage has a
-- number
abbrev pub own_modes : ℕ → UnitModel → List (ℕ × ℕ)
own_modes storage (register AsMode name width input when) = (storage, width) ∷ []
own_modes storage _ = []

abbrev pub modes_from : ℕ → List UnitModel → List (ℕ × ℕ)
modes_from storage [] = []
modes_from storage (e ∷ entries) = own_modes storage e ++ modes_from (storage + count_storages e) entries

-- the storage of the mode, where there is one alone, and it has 2 bits at most
abbrev pub lone_mode : List (ℕ × ℕ) → Option ℕ
lone_mode (mode ∷ []) = if nat_le mode.1 2 then Some mode.0 else None
lone_mode _ = None

-- the files among items, which are banks where the edition has one: the storage of each, where the
-- first item's storage has a number
abbrev pub own_files : ℕ → UnitModel → List ℕ
own_files storage (memory InFile name width size addr_width value addr when) = storage ∷ []
own_files storage _ = []

abbrev pub files_from : ℕ → List UnitModel → List ℕ
files_from storage [] = []
files_from storage (e ∷ entries) = own_files storage e ++ files_from (storage + count_storages e) entries

-- the storage of the bank, where there is one alone
abbrev pub lone_bank : List ℕ → Option ℕ
lone_bank (bank ∷ []) = Some bank
lone_bank _ = None

-- the mode, or the bank, of items that are of an edition; one edition has a mode, and one a bank
abbrev pub special_in : ℕ → List UnitModel → Option ℕ
special_in edition text =
    if is_moded edition then lone_mode (modes_from 0 text)
    else if is_banked edition then lone_bank (files_from 0 text)
    else None

-- the netlist of items that are of an edition, and of a text
abbrev pub netlist_in : ℕ → List UnitModel → Netlist
netlist_in edition text = record {
  nets = nets_from text 0 0 0 text;
  storages = storages_from text 0 text;
  codes = codes_from text text;
  edition = edition;
  special = special_in edition text;
}

abbrev pub netlist_of : UnitsModel → Netlist
netlist_of text = netlist_in text.edition text.items
