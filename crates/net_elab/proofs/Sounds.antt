-- In a text that keeps the rules, names stand for nets, wires and memories of their widths.
use Rattle.std.proofs.Common.{ℕ, ◌≡◌, ◌+◌, ◌-◌, true, false, List, [], ◌++◌, Option, Some, None, slice_get, slice_index, refl, sym, ap, subst, arith, length-append, IsTrue}
use Rattle.std.specs.List.{AllByRecursion, list_all}
use Rattle.grammar.specs.declared.words.Ident.{Ident}
use Rattle.net_model.specs.declared.hardware.Cells.{Cells}
use Rattle.net_model.specs.declared.hardware.Space.{Space}
use Rattle.net_model.specs.declared.hardware.Space.TheVariants.{Memory as InMemory, File as InFile}
use Rattle.net_model.specs.Nets.{storage_array}
use Rattle.net_model.specs.declared.units.Port.{Port}
use Rattle.net_model.specs.declared.hardware.Netlist.{Netlist}
use Rattle.net_model.specs.declared.hardware.Gate.TheVariants as gate
use Rattle.net_model.specs.Widths.{HasWidth}
use Rattle.net_model.specs.CheckedRules.{ReadKeeps}
use Rattle.rec_bits.specs.Operators.{IsWidth}
use Rattle.net_model.specs.Written.{UnitModel, code, register, memory, net, bus, module_item, part, NetExprModel}
use Rattle.net_model.specs.TextNames.{place_named, item_named, port_named, in_module}
use Rattle.net_model.specs.TextWidths.{MemoryWidthsModel, field_width, input_width, memory_of, part_ports, ports_of, port_width, value_width}
use Rattle.net_model.specs.Elaborable.{IsDriven, IsElaborable, ItemKeeps, PortFed, PortKeeps}
use Rattle.net_model.specs.DriverRules.{covers_binding, drives_once}
use Rattle.net_model.specs.Numbering.{SiteModel, of_text, count, count_inputs, count_outputs, count_item, equations_of, item_net, item_wires, list_or_none, port_place, port_wires, storage_named, wires_named}
use Rattle.net_model.specs.Elaborated.{storage_in, codes_from, elaborated_drivers, equations_nets, inputs_nets, inside, nets_from, nets_if, elaborated, netlist_in, out_of, output_wires, part_nets, storages_from}
use Rattle.net_elab.proofs.Standing.{Stands, stands_left, stands_right, stands_self, length_drivers, length_if, length_inputs, length_nets, length_outputs}
use Rattle.rec_bits.proofs.Booleans.{and_right}
use Rattle.rec_bits.proofs.Lists.{all_at}
use Rattle.net_elab.proofs.Kept.{SiteSound, width_range}
use Rattle.net_elab.proofs.Ports.{port_keeps}
use Rattle.net_elab.proofs.Places.{AllLocated, FoundItem, Located, locate, plain_at, wire_in, wire_out}

-- ---- what is asked of each item holds of the one at a place

pub record ValueItem (o : Option UnitModel) (w : ℕ) : Type 0 where
  pub entry : UnitModel
  pub is : o ≡ Some entry
  pub width_is : value_width (Some entry) ≡ Some w

value_item : (o : Option UnitModel) (w : ℕ) → value_width o ≡ Some w → ValueItem o w
value_item None w h = absurd (cc h)
value_item (Some e) w h = record { entry = e; is = refl; width_is = h }

value_range : (text : List UnitModel) (e : UnitModel) (w : ℕ) → value_width (Some e) ≡ Some w → ItemKeeps text e → IsWidth w
value_range text (code name bits size counter) w h k = subst IsWidth (let s : bits ≡ w = cc in s) (width_range bits k.0)
value_range text (register kind name width input when) w h k = subst IsWidth (let s : width ≡ w = cc in s) (width_range width k.0)
value_range text (memory space name width size addr_width value addr when) w h k = absurd (cc h)
value_range text (net name width value) w h k = subst IsWidth (let s : width ≡ w = cc in s) (width_range width k.0)
value_range text (bus name width drivers) w h k = subst IsWidth (let s : width ≡ w = cc in s) (width_range width k.0)
value_range text (module_item name ports equations) w h k = absurd (cc h)
value_range text (part name of links) w h k = absurd (cc h)

-- ---- the ports and equations of a module

pub record ModuleParts (o : Option UnitModel) : Type 0 where
  pub ports_keep : AllByRecursion PortKeeps (ports_of o)
  pub outputs_fed : AllByRecursion (PortFed true (in_module (ports_of o)) (equations_of o)) (ports_of o)
  pub equations_cover : IsTrue (list_all (covers_binding (in_module (ports_of o))) (equations_of o))

pub module_parts : (text : List UnitModel) (o : Option UnitModel) → ((e : UnitModel) → o ≡ Some e → ItemKeeps text e) → ((e : UnitModel) → o ≡ Some e → IsDriven text e) → ModuleParts o
module_parts text None f g = record { ports_keep = tt; outputs_fed = tt; equations_cover = refl }
module_parts text (Some (module_item name ports equations)) f g =
    let k = f (module_item name ports equations) refl in
    let d = g (module_item name ports equations) refl in
    record { ports_keep = k.0; outputs_fed = k.1; equations_cover = and_right (drives_once true ports equations) (list_all (covers_binding (in_module ports)) equations) d }
module_parts text (Some (code name bits size counter)) f g = record { ports_keep = tt; outputs_fed = tt; equations_cover = refl }
module_parts text (Some (register kind name width input when)) f g = record { ports_keep = tt; outputs_fed = tt; equations_cover = refl }
module_parts text (Some (memory space name width size addr_width value addr when)) f g = record { ports_keep = tt; outputs_fed = tt; equations_cover = refl }
module_parts text (Some (net name width value)) f g = record { ports_keep = tt; outputs_fed = tt; equations_cover = refl }
module_parts text (Some (bus name width drivers)) f g = record { ports_keep = tt; outputs_fed = tt; equations_cover = refl }
module_parts text (Some (part name of links)) f g = record { ports_keep = tt; outputs_fed = tt; equations_cover = refl }

pub record PortIs (o : Option Port) (w : ℕ) : Type 0 where
  pub port : Port
  pub is : o ≡ Some port
  pub width_is : port.width ≡ w

pub port_is : (o : Option Port) (w : ℕ) → port_width o ≡ Some w → PortIs o w
port_is None w h = absurd (cc h)
port_is (Some p) w h = record { port = p; is = refl; width_is = (let s : p.width ≡ w = cc in s) }

-- ---- inside a part

pub inside_sound : (netlist : Netlist) (at start : ℕ) (site : SiteModel) (links : List (Ident × NetExprModel)) (ports : List Port) → AllByRecursion PortKeeps ports
    → Stands netlist.nets start (inputs_nets site at start links ports) → SiteSound netlist (inside start links ports)
inside_sound netlist at start site links ports keep k = record {
  named_has = λ name field w h. has name field w h;
  named_range = λ name field w h. range name field w h;
  cells_read = λ name m h. absurd (cc h);
  cells_range = λ name m h. absurd (cc h);
}
  where
    has : (name : List ℕ) (field : Option Ident) (w : ℕ) → input_width ports name field ≡ Some w → HasWidth netlist (slice_index (port_wires start (start + count_inputs links ports) links ports) (port_place false ports name)) w
    has name None w h =
        let p = port_is (port_named false ports name) w h in
        subst (λ (n : ℕ). HasWidth netlist (slice_index (port_wires start (start + count_inputs links ports) links ports) (port_place false ports name)) n) p.width_is
        (wire_in netlist site at start (start + count_inputs links ports) links ports name p.port p.is k)
    has name (Some field) w h = absurd (cc h)

    range : (name : List ℕ) (field : Option Ident) (w : ℕ) → input_width ports name field ≡ Some w → IsWidth w
    range name None w h =
        let p = port_is (port_named false ports name) w h in
        subst IsWidth p.width_is (width_range p.port.width (port_keeps false ports name p.port keep p.is))
    range name (Some field) w h = absurd (cc h)

-- ---- among the items

abbrev cell_or : Option MemoryWidthsModel → ℕ
cell_or None = 0
cell_or (Some m) = m.cell

abbrev address_or : Option MemoryWidthsModel → ℕ
address_or None = 0
address_or (Some m) = m.address

-- an item's own net is its last one and has the width of what its name stands for
item_out : (netlist : Netlist) (text : List UnitModel) (e : UnitModel) (w start storage number : ℕ) → value_width (Some e) ≡ Some w → Located netlist text e start storage number
    → HasWidth netlist (start + count_item text e - 1) w
item_out netlist text (code name bits size counter) w start storage number h l =
    subst (λ (n : ℕ). HasWidth netlist (start + 1 - 1) n) (let s : bits ≡ w = cc in s)
    (plain_at netlist start (start + 1 - 1) [] name.at bits (gate.Word number) (omega arith) l.nets_there)
item_out netlist text (register kind name width input when) w start storage number h l =
    let xs = elaborated (of_text text) name.at start input in
    let ys = nets_if (of_text text) name.at (start + count input) when in
    subst (λ (n : ℕ). HasWidth netlist (start + count_item text (register kind name width input when) - 1) n) (let s : width ≡ w = cc in s)
    (plain_at netlist start _ (xs ++ ys) name.at width (gate.Reg storage)
    (omega (arith, length-append xs ys, length_nets (of_text text) name.at start input, length_if (of_text text) name.at (start + count input) when)) l.nets_there)
item_out netlist text (memory space name width size addr_width value addr when) w start storage number h l = absurd (cc h)
item_out netlist text (net name width value) w start storage number h l =
    subst (λ (n : ℕ). HasWidth netlist (start + count_item text (net name width value) - 1) n) (let s : width ≡ w = cc in s)
    (plain_at netlist start _ (elaborated (of_text text) name.at start value) name.at width (gate.Wire (out_of (of_text text) start value))
    (omega (arith, length_nets (of_text text) name.at start value)) l.nets_there)
item_out netlist text (bus name width drivers) w start storage number h l =
    subst (λ (n : ℕ). HasWidth netlist (start + count_item text (bus name width drivers) - 1) n) (let s : width ≡ w = cc in s)
    (plain_at netlist start _ (elaborated_drivers (of_text text) name.at start drivers) name.at width _
    (omega (arith, length_drivers (of_text text) name.at start drivers)) l.nets_there)
item_out netlist text (module_item name ports equations) w start storage number h l = absurd (cc h)
item_out netlist text (part name of links) w start storage number h l = absurd (cc h)

-- the cells of a space's storage
pub array_stored : (space : Space) (cells : Cells) → storage_array (storage_in space cells) ≡ Some cells
array_stored InMemory cells = refl
array_stored InFile cells = refl

module _ (edition : ℕ) (text : List UnitModel) (keep : IsElaborable text) where
  abbrev made : Netlist
  made = netlist_in edition text

  pub all_located : AllLocated (netlist_in edition text) text text 0 0 0
  all_located = record {
    nets_there = stands_self (nets_from text 0 0 0 text);
    storages_there = stands_self (storages_from text 0 text);
    codes_there = stands_self (codes_from text text);
  }

  pub found : (name : List ℕ) (e : UnitModel) → item_named text name ≡ Some e → FoundItem (netlist_in edition text) text text 0 0 (place_named text name) e
  found name e h = locate (netlist_in edition text) text text 0 0 0 (place_named text name) e h all_located

  pub item_kept : (name : List ℕ) (e : UnitModel) → item_named text name ≡ Some e → ItemKeeps text e
  item_kept name e h = all_at (ItemKeeps text) text (place_named text name) e keep.items h

  pub item_driven : (name : List ℕ) (e : UnitModel) → item_named text name ≡ Some e → IsDriven text e
  item_driven name e h = all_at (IsDriven text) text (place_named text name) e keep.driven h

  pub module_of : (name : List ℕ) → ModuleParts (item_named text name)
  module_of name = module_parts text (item_named text name) (item_kept name) (item_driven name)

  -- the inputs and the output wires of a part
  pub record PartStands (at start : ℕ) (links : List (Ident × NetExprModel)) (ports : List Port) (equations : List (Ident × NetExprModel)) : Type 0 where
    pub inputs_there : Stands (netlist_in edition text).nets start (inputs_nets (of_text text) at start links ports)
    pub outputs_there : Stands (netlist_in edition text).nets (start + count_inputs links ports)
        (output_wires (inside start links ports) at (start + count_inputs links ports + count_outputs ports) equations ports)
    pub equations_there : Stands (netlist_in edition text).nets (start + count_inputs links ports + count_outputs ports)
        (equations_nets (inside start links ports) at (start + count_inputs links ports + count_outputs ports) equations ports)

  pub part_stands : (at start : ℕ) (links : List (Ident × NetExprModel)) (ports : List Port) (equations : List (Ident × NetExprModel))
      → Stands (netlist_in edition text).nets start (part_nets text at start links ports equations) → PartStands at start links ports equations
  part_stands at start links ports equations k =
      let xs = inputs_nets (of_text text) at start links ports in
      let ys = output_wires (inside start links ports) at (start + count_inputs links ports + count_outputs ports) equations ports in
      let zs = equations_nets (inside start links ports) at (start + count_inputs links ports + count_outputs ports) equations ports in
      let l = stands_left (netlist_in edition text).nets start (xs ++ ys) zs k in
      record {
        inputs_there = stands_left (netlist_in edition text).nets start xs ys l;
        outputs_there = stands_right (netlist_in edition text).nets start (start + count_inputs links ports) xs ys (ap (λ (n : ℕ). start + n) (length_inputs (of_text text) at start links ports)) l;
        equations_there = stands_right (netlist_in edition text).nets start (start + count_inputs links ports + count_outputs ports) (xs ++ ys) zs
            (omega (
              arith,
              length-append xs ys,
              length_inputs (of_text text) at start links ports,
              length_outputs (inside start links ports) at (start + count_inputs links ports + count_outputs ports) equations ports,
            )) k;
      }

  value_has : (name : List ℕ) (w : ℕ) → value_width (item_named text name) ≡ Some w → HasWidth (netlist_in edition text) (item_net text name None) w
  value_has name w h =
      let v = value_item (item_named text name) w h in
      let f = found name v.entry v.is in
      subst (λ (n : ℕ). HasWidth (netlist_in edition text) n w) (sym f.last_is)
      (item_out (netlist_in edition text) text v.entry w f.net_at f.storage_at f.code_at v.width_is f.there)

  -- an output of a part
  field_has : (name : List ℕ) (field : Ident) (w : ℕ) (o : Option UnitModel) → item_named text name ≡ o → port_width (port_named true (part_ports text o) field.name) ≡ Some w
      → HasWidth (netlist_in edition text) (slice_index (wires_named text name) (port_place true (part_ports text o) field.name)) w
  field_has name field w (Some (part own of links)) e h =
      let f = found name (part own of links) e in
      let p = port_is (port_named true (ports_of (item_named text of.name)) field.name) w h in
      let s = part_stands own.at f.net_at links (ports_of (item_named text of.name)) (equations_of (item_named text of.name)) f.there.nets_there in
      let wires : wires_named text name ≡ item_wires text f.net_at (part own of links) = ap list_or_none f.wires_are in
      subst (λ (ns : List ℕ). HasWidth (netlist_in edition text) (slice_index ns (port_place true (ports_of (item_named text of.name)) field.name)) w) (sym wires)
      (subst (λ (n : ℕ). HasWidth (netlist_in edition text) (slice_index (item_wires text f.net_at (part own of links)) (port_place true (ports_of (item_named text of.name)) field.name)) n) p.width_is
      (wire_out (netlist_in edition text) (inside f.net_at links (ports_of (item_named text of.name))) own.at f.net_at (f.net_at + count_inputs links (ports_of (item_named text of.name)))
      (f.net_at + count_inputs links (ports_of (item_named text of.name)) + count_outputs (ports_of (item_named text of.name)))
      links (equations_of (item_named text of.name)) (ports_of (item_named text of.name)) field.name p.port p.is s.outputs_there))
  field_has name field w None e h = absurd (cc h)
  field_has name field w (Some (code own bits size counter)) e h = absurd (cc h)
  field_has name field w (Some (register kind own width input when)) e h = absurd (cc h)
  field_has name field w (Some (memory space own width size addr_width value addr when)) e h = absurd (cc h)
  field_has name field w (Some (net own width value)) e h = absurd (cc h)
  field_has name field w (Some (bus own width drivers)) e h = absurd (cc h)
  field_has name field w (Some (module_item own ports equations)) e h = absurd (cc h)

  field_range : (field : Ident) (w : ℕ) (o : Option UnitModel) → port_width (port_named true (part_ports text o) field.name) ≡ Some w → IsWidth w
  field_range field w (Some (part own of links)) h =
      let p = port_is (port_named true (ports_of (item_named text of.name)) field.name) w h in
      subst IsWidth p.width_is (width_range p.port.width (port_keeps true (ports_of (item_named text of.name)) field.name p.port (module_of of.name).ports_keep p.is))
  field_range field w None h = absurd (cc h)
  field_range field w (Some (code own bits size counter)) h = absurd (cc h)
  field_range field w (Some (register kind own width input when)) h = absurd (cc h)
  field_range field w (Some (memory space own width size addr_width value addr when)) h = absurd (cc h)
  field_range field w (Some (net own width value)) h = absurd (cc h)
  field_range field w (Some (bus own width drivers)) h = absurd (cc h)
  field_range field w (Some (module_item own ports equations)) h = absurd (cc h)

  text_has : (name : List ℕ) (field : Option Ident) (w : ℕ) → field_width text name field ≡ Some w → HasWidth (netlist_in edition text) (item_net text name field) w
  text_has name None w h = value_has name w h
  text_has name (Some field) w h = field_has name field w (item_named text name) refl h

  text_range : (name : List ℕ) (field : Option Ident) (w : ℕ) → field_width text name field ≡ Some w → IsWidth w
  text_range name None w h = let v = value_item (item_named text name) w h in value_range text v.entry w v.width_is (item_kept name v.entry v.is)
  text_range name (Some field) w h = field_range field w (item_named text name) h

  memory_reads : (name : List ℕ) (m : MemoryWidthsModel) (o : Option UnitModel) → item_named text name ≡ o → memory_of o ≡ Some m → (addr : ℕ) → HasWidth (netlist_in edition text) addr m.address
      → ReadKeeps (netlist_in edition text) m.cell addr (slice_get (netlist_in edition text).storages (storage_named text name))
  memory_reads name m (Some (memory space own width size addr_width value at when)) e h addr k =
      let f = found name (memory space own width size addr_width value at when) e in
      let s = f.there.storages_there.0 in
      let c : width ≡ m.cell = ap (λ (x : Option MemoryWidthsModel). cell_or x) h in
      let a : m.address ≡ addr_width = sym (ap (λ (x : Option MemoryWidthsModel). address_or x) h) in
      rw (f.storage_is, s, array_stored space _) (c, subst (HasWidth (netlist_in edition text) addr) a k)
  memory_reads name m None e h addr k = absurd (cc h)
  memory_reads name m (Some (code own bits size counter)) e h addr k = absurd (cc h)
  memory_reads name m (Some (register kind own width input when)) e h addr k = absurd (cc h)
  memory_reads name m (Some (net own width value)) e h addr k = absurd (cc h)
  memory_reads name m (Some (bus own width drivers)) e h addr k = absurd (cc h)
  memory_reads name m (Some (module_item own ports equations)) e h addr k = absurd (cc h)
  memory_reads name m (Some (part own of links)) e h addr k = absurd (cc h)

  memory_range : (name : List ℕ) (m : MemoryWidthsModel) (o : Option UnitModel) → item_named text name ≡ o → memory_of o ≡ Some m → IsWidth m.cell
  memory_range name m (Some (memory space own width size addr_width value at when)) e h =
      let c : width ≡ m.cell = ap (λ (x : Option MemoryWidthsModel). cell_or x) h in
      subst IsWidth c (width_range width (item_kept name (memory space own width size addr_width value at when) e).0)
  memory_range name m None e h = absurd (cc h)
  memory_range name m (Some (code own bits size counter)) e h = absurd (cc h)
  memory_range name m (Some (register kind own width input when)) e h = absurd (cc h)
  memory_range name m (Some (net own width value)) e h = absurd (cc h)
  memory_range name m (Some (bus own width drivers)) e h = absurd (cc h)
  memory_range name m (Some (module_item own ports equations)) e h = absurd (cc h)
  memory_range name m (Some (part own of links)) e h = absurd (cc h)

  pub text_sound : SiteSound (netlist_in edition text) (of_text text)
  text_sound = record {
    named_has = text_has;
    named_range = text_range;
    cells_read = λ name m h. memory_reads name m (item_named text name) refl h;
    cells_range = λ name m h. memory_range name m (item_named text name) refl h;
  }
