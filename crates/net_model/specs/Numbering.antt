-- How the nets and storages of a netlist text are numbered: item by item, in the order of the text.
use Rattle.std.specs.Prelude.{ℕ, ◌+◌, ◌-◌, if◌then◌else◌, List, [], ◌∷◌, Option, Some, None, slice_get, slice_index, Bool, true, false}
use Rattle.grammar.specs.declared.words.Ident.{Ident}
use Rattle.net_model.specs.declared.units.Port.{Port}
use Rattle.net_model.specs.Written.{UnitModel, code, register, memory, net, bus, module_item, part, NetExprModel, named, const, un, bin, cat, slice, zext, sext, read, case, CaseRowsModel, no_rows, row, CaseRestModel, no_rest, rest}
use Rattle.net_model.specs.TextNames.{place_named, item_named, is_port, ScopeModel, in_text, in_module}
use Rattle.rec_bits.specs.Faults.{same_name}
use Rattle.net_model.specs.TextWidths.{ports_of, part_ports}

-- ---- how many nets

-- an expression gives a net for each operator, constant, slice, extension, read and case; a bare
-- name gives none
abbrev mutual
  pub count : NetExprModel → ℕ
  count (named name field None) = 0
  count (named name field (Some bits)) = 1
  count (const value width) = 1
  count (un op a) = count a + 1
  count (bin op a b) = count a + count b + 1
  count (cat a b) = count a + count b + 1
  count (slice a hi lo) = count a + 1
  count (zext a width) = count a + 1
  count (sext a width) = count a + 1
  count (read name a) = count a + 1
  count (case selector rows other) = count selector + count_rows rows + count_rest other + 1

  pub count_rows : CaseRowsModel → ℕ
  count_rows no_rows = 0
  count_rows (row numbers a rows) = count a + count_rows rows

  pub count_rest : CaseRestModel → ℕ
  count_rest no_rest = 0
  count_rest (rest a) = count a

abbrev pub count_if : Option NetExprModel → ℕ
count_if None = 0
count_if (Some a) = count a

abbrev pub count_drivers : List (NetExprModel × NetExprModel) → ℕ
count_drivers [] = 0
count_drivers (driver ∷ drivers) = count driver.0 + count driver.1 + count_drivers drivers

-- ---- parts

-- the first expression that is bound to a name
abbrev pub bound : List (Ident × NetExprModel) → List ℕ → Option NetExprModel
bound [] name = None
bound (binding ∷ bindings) name = if same_name binding.0.name name then Some binding.1 else bound bindings name

-- an input gives the nets of its link and then its wire, an output gives none here
abbrev pub count_input : List (Ident × NetExprModel) → Port → ℕ
count_input links port = if port.output then 0 else count_if (bound links port.name.name) + 1

abbrev pub count_inputs : List (Ident × NetExprModel) → List Port → ℕ
count_inputs links [] = 0
count_inputs links (port ∷ ports) = count_input links port + count_inputs links ports

-- an output gives its wire
abbrev pub count_output : Port → ℕ
count_output port = if port.output then 1 else 0

abbrev pub count_outputs : List Port → ℕ
count_outputs [] = 0
count_outputs (port ∷ ports) = count_output port + count_outputs ports

-- and the nets of its equation
abbrev pub count_equation : List (Ident × NetExprModel) → Port → ℕ
count_equation equations port = if port.output then count_if (bound equations port.name.name) else 0

abbrev pub count_equations : List (Ident × NetExprModel) → List Port → ℕ
count_equations equations [] = 0
count_equations equations (port ∷ ports) = count_equation equations port + count_equations equations ports

abbrev pub count_part : List (Ident × NetExprModel) → List Port → List (Ident × NetExprModel) → ℕ
count_part links ports equations = count_inputs links ports + count_outputs ports + count_equations equations ports

-- the wires of a part's ports: an input's is its last net, and the outputs' stand one behind the
-- other; the numbers are those of the first net of the inputs and of the first wire of the outputs
abbrev pub port_wires : ℕ → ℕ → List (Ident × NetExprModel) → List Port → List ℕ
port_wires start wire links [] = []
port_wires start wire links (port ∷ ports) =
    (if port.output then wire else start + count_input links port - 1)
    ∷ port_wires (start + count_input links port) (wire + count_output port) links ports

-- the place of the first port of a direction and a name, and the number of ports where there is
-- none
abbrev pub port_place : Bool → List Port → List ℕ → ℕ
port_place output [] name = 0
port_place output (port ∷ ports) name = if is_port output name port then 0 else port_place output ports name + 1

-- ---- items

-- what the outputs of a module are
abbrev pub equations_of : Option UnitModel → List (Ident × NetExprModel)
equations_of (Some (module_item name ports equations)) = equations
equations_of _ = []

abbrev pub count_item : List UnitModel → UnitModel → ℕ
count_item text (code name bits size counter) = 1
count_item text (register kind name width input when) = count input + count_if when + 1
count_item text (memory space name width size addr_width value addr when) = count value + count addr + count_if when
count_item text (net name width value) = count value + 1
count_item text (bus name width drivers) = count_drivers drivers + 1
count_item text (module_item name ports equations) = 0
count_item text (part name of links) =
    count_part links (ports_of (item_named text of.name)) (equations_of (item_named text of.name))

abbrev pub count_items : List UnitModel → List UnitModel → ℕ
count_items text [] = 0
count_items text (e ∷ entries) = count_item text e + count_items text entries

-- the last net of each item, which is its output, where the first item's nets begin at a number
abbrev pub last_nets : List UnitModel → ℕ → List UnitModel → List ℕ
last_nets text start [] = []
last_nets text start (e ∷ entries) =
    (start + count_item text e - 1) ∷ last_nets text (start + count_item text e) entries

-- the wires of the ports of each item that is a part
abbrev pub item_wires : List UnitModel → ℕ → UnitModel → List ℕ
item_wires text start (part name of links) =
    port_wires start (start + count_inputs links (ports_of (item_named text of.name))) links
    (ports_of (item_named text of.name))
item_wires text start _ = []

abbrev pub wires_from : List UnitModel → ℕ → List UnitModel → List (List ℕ)
wires_from text start [] = []
wires_from text start (e ∷ entries) = item_wires text start e ∷ wires_from text (start + count_item text e) entries

-- how many storages an item gives, and the number of the first one of each item
abbrev pub count_storages : UnitModel → ℕ
count_storages (register kind name width input when) = 1
count_storages (memory space name width size addr_width value addr when) = 1
count_storages _ = 0

abbrev pub storage_numbers : ℕ → List UnitModel → List ℕ
storage_numbers start [] = []
storage_numbers start (e ∷ entries) = start ∷ storage_numbers (start + count_storages e) entries

-- ---- what names stand for

-- where an expression stands: among the items of the text, or in a part, whose ports have these
-- wires
pub data SiteModel : Type 0 where
  of_text : List UnitModel → SiteModel
  of_part : List Port → List ℕ → SiteModel

abbrev pub scope_at : SiteModel → ScopeModel
scope_at (of_text text) = in_text text
scope_at (of_part ports wires) = in_module ports

-- the storage of the first item of a name
abbrev pub storage_named : List UnitModel → List ℕ → ℕ
storage_named text name = slice_index (storage_numbers 0 text) (place_named text name)

abbrev pub memory_at : SiteModel → List ℕ → ℕ
memory_at (of_text text) name = storage_named text name
memory_at (of_part ports wires) name = 0

abbrev pub list_or_none : Option (List ℕ) → List ℕ
list_or_none None = []
list_or_none (Some numbers) = numbers

-- the wires of the ports of the first item of a name
abbrev pub wires_named : List UnitModel → List ℕ → List ℕ
wires_named text name = list_or_none (slice_get (wires_from text 0 text) (place_named text name))

-- the output of the first item of a name, or the wire of an output of that part
abbrev pub item_net : List UnitModel → List ℕ → Option Ident → ℕ
item_net text name None = slice_index (last_nets text 0 text) (place_named text name)
item_net text name (Some field) =
    slice_index (wires_named text name) (port_place true (part_ports text (item_named text name)) field.name)

-- the net that a name stands for
abbrev pub net_named : SiteModel → List ℕ → Option Ident → ℕ
net_named (of_text text) name field = item_net text name field
net_named (of_part ports wires) name field = slice_index wires (port_place false ports name)
