-- The netlist of a text that keeps the rules is well formed.
use Rattle.std.proofs.Common.{ℕ, zero, suc, ◌≡◌, ◌+◌, ◌≤◌, ◌&&◌, Bool, true, false, if◌then◌else◌, List, [], ◌∷◌, ◌++◌, Option, Some, None, slice_get, refl, sym, ap, ◌∙◌, subst, arith, IsTrue, nat_le, length-append, Result, Ok, Err, IfOk}
use Rattle.std.specs.List.{AllByRecursion, list_all}
use Rattle.std.proofs.lemmas.Bool.Decides.{nat_tests}
use Rattle.std.proofs.lemmas.Option.{slice_get_within}
use Rattle.grammar.specs.declared.words.Ident.{Ident}
use Rattle.net_model.specs.declared.hardware.Cells.{Cells}
use Rattle.net_model.specs.declared.hardware.Space.{Space}
use Rattle.net_model.specs.declared.hardware.Space.TheVariants.{Memory as InMemory, File as InFile}
use Rattle.net_model.specs.declared.units.Port.{Port}
use Rattle.net_model.specs.declared.hardware.Netlist.{Netlist}
use Rattle.net_model.specs.declared.hardware.Net.{Net}
use Rattle.net_model.specs.declared.hardware.Code.{Code}
use Rattle.net_model.specs.declared.hardware.Storage.{Storage}
use Rattle.net_model.specs.declared.hardware.Storage.TheVariants.{Register, Memory, File}
use Rattle.net_model.specs.declared.hardware.Gate.{Gate}
use Rattle.net_model.specs.declared.hardware.Gate.TheVariants as gate
use Rattle.net_model.specs.Nets.{IsRegister, code_bits, storage_bits}
use Rattle.rec_bits.specs.Operators.{IsWidth}
use Rattle.net_model.specs.Widths.{ArrayFits, DriversFit, HasWidth, WhenFits}
use Rattle.net_model.specs.CheckedRules.{CodeKeeps, GateKeeps, HasFewCells, IsWellFormed, IsWithinLimits, NetKeeps, StorageKeeps, register_count}
use Rattle.net_model.specs.Written.{UnitModel, code, register, memory, net, bus, module_item, part, NetExprModel}
use Rattle.net_model.specs.TextNames.{item_named, ScopeModel, in_text}
use Rattle.rec_bits.specs.Faults.{same_name}
use Rattle.net_model.specs.TextWidths.{is_width, ports_of}
use Rattle.net_model.specs.Elaborable.{DriverFeeds, FeedsIf, IsBound, IsDriven, IsElaborable, IsFewIn, IsRegisterItem, IsSmall, ItemKeeps, PortFed, PortKeeps}
use Rattle.net_model.specs.DriverRules.{covers, covers_binding, covers_driver, covers_if, drives_once}
use Rattle.net_model.specs.LimitRules.{count_register, count_registers, most_cells}
use Rattle.net_model.specs.Numbering.{SiteModel, of_text, scope_at, bound, count, count_equation, count_input, count_inputs, count_outputs, count_item, count_storages, equations_of, storage_named}
use Rattle.net_model.specs.Elaborated.{bound_out, codes_from, count_codes, elaborated_drivers, driver_pairs, equation_nets, equations_nets, input_nets, inputs_nets, inside, item_codes, item_nets, item_storages, nets_from, nets_if, elaborated, netlist_in, out_if, out_of, output_wire, output_wires, plain_net, storage_in, storages_from}
use Rattle.net_elab.proofs.Standing.{Stands, stands_left, stands_right, length_equation, length_input, length_items, length_nets}
use Rattle.net_elab.proofs.ItemNames.{names_differ}
use Rattle.net_elab.proofs.LoneMode.{special_is}
use Rattle.rec_bits.proofs.Booleans.{and_left, and_right}
use Rattle.rec_bits.proofs.Lists.{all_append}
use Rattle.net_elab.proofs.Kept.{SiteSound, keeps, out_has, width_range}
use Rattle.net_elab.proofs.Places.{AllLocated, Located, first_located, others_located, stands_else, stands_then}
use Rattle.net_elab.proofs.Sounds.{all_located, found, inside_sound, module_of, part_stands, text_sound}

-- ---- optional and bound expressions

covers_bound : (s : ScopeModel) (bindings : List (Ident × NetExprModel)) (name : List ℕ) → IsTrue (list_all (covers_binding s) bindings) → IsTrue (covers_if s (bound bindings name))
covers_bound s [] name h = refl
covers_bound s (b ∷ bindings) name h =
    pick (same_name b.0.name name) (and_left (covers s b.1) (list_all (covers_binding s) bindings) h)
    (covers_bound s bindings name (and_right (covers s b.1) (list_all (covers_binding s) bindings) h))
  where
    pick : (t : Bool) → IsTrue (covers s b.1) → IsTrue (covers_if s (bound bindings name)) → IsTrue (covers_if s (if t then Some b.1 else bound bindings name))
    pick true x y = x
    pick false x y = y

module _ (netlist : Netlist) where
  abbrev Keeps : Net → Type 0
  Keeps x = NetKeeps netlist (Some x)

  -- an own net of a written width
  plain_keeps : (at width : ℕ) (g : Gate) → IsTrue (is_width width) → GateKeeps netlist width g → AllByRecursion Keeps (plain_net at width g ∷ [])
  plain_keeps at width g r k = ((width_range width r, k), tt)

  module _ (site : SiteModel) (sound : SiteSound netlist site) where
    -- a `when`
    when_keeps : (at start : ℕ) (when : Option NetExprModel) → FeedsIf (scope_at site) 1 when → IsTrue (covers_if (scope_at site) when) → Stands netlist.nets start (nets_if site at start when)
        → AllByRecursion Keeps (nets_if site at start when)
    when_keeps at start None f c k = tt
    when_keeps at start (Some a) f c k = keeps netlist site sound at start a 1 f c k

    when_fits : (at start : ℕ) (when : Option NetExprModel) → FeedsIf (scope_at site) 1 when → Stands netlist.nets start (nets_if site at start when) → WhenFits netlist (out_if site start when)
    when_fits at start None f k = tt
    when_fits at start (Some a) f k = out_has netlist site sound at start a 1 f k

    -- what is bound to a port
    bound_keeps : (at start w : ℕ) (a : Option NetExprModel) → IsBound (scope_at site) w a → IsTrue (covers_if (scope_at site) a) → Stands netlist.nets start (nets_if site at start a)
        → AllByRecursion Keeps (nets_if site at start a)
    bound_keeps at start w None f c k = tt
    bound_keeps at start w (Some a) f c k = keeps netlist site sound at start a w f c k

    bound_has : (at start w : ℕ) (a : Option NetExprModel) → IsBound (scope_at site) w a → Stands netlist.nets start (nets_if site at start a) → HasWidth netlist (bound_out site start a) w
    bound_has at start w None f k = absurd f
    bound_has at start w (Some a) f k = out_has netlist site sound at start a w f k

    -- ---- drivers

    drivers_keep : (at start w : ℕ) (drivers : List (NetExprModel × NetExprModel)) → AllByRecursion (DriverFeeds (scope_at site) w) drivers → IsTrue (list_all (covers_driver (scope_at site)) drivers)
        → Stands netlist.nets start (elaborated_drivers site at start drivers) → AllByRecursion Keeps (elaborated_drivers site at start drivers) × DriversFit netlist w (driver_pairs site start drivers)
    drivers_keep at start w [] f c k = (tt, tt)
    drivers_keep at start w (d ∷ drivers) f c k =
        let xs = elaborated site at start d.0 in
        let ys = elaborated site at (start + count d.0) d.1 in
        let l = stands_left netlist.nets start (xs ++ ys) _ k in
        let lx = stands_left netlist.nets start xs ys l in
        let ly = stands_right netlist.nets start (start + count d.0) xs ys (ap (λ (n : ℕ). start + n) (length_nets site at start d.0)) l in
        let own = and_left (covers_driver (scope_at site) d) (list_all (covers_driver (scope_at site)) drivers) c in
        let behind = stands_right netlist.nets start (start + count d.0 + count d.1) (xs ++ ys) _
        (omega (arith, length-append xs ys, length_nets site at start d.0, length_nets site at (start + count d.0) d.1)) k in
        let r = drivers_keep at (start + count d.0 + count d.1) w drivers f.1 (and_right (covers_driver (scope_at site) d) (list_all (covers_driver (scope_at site)) drivers) c) behind in (
          all_append Keeps (xs ++ ys) _
              (all_append Keeps xs ys (keeps netlist site sound at start d.0 w f.0.0 (and_left (covers (scope_at site) d.0) (covers (scope_at site) d.1) own) lx)
              (keeps netlist site sound at (start + count d.0) d.1 1 f.0.1 (and_right (covers (scope_at site) d.0) (covers (scope_at site) d.1) own) ly)) r.0,
          (out_has netlist site sound at start d.0 w f.0.0 lx, out_has netlist site sound at (start + count d.0) d.1 1 f.0.1 ly, r.1),
        )

    -- ---- ports

    if_keeps : (b : Bool) (xs ys : List Net) → (b ≡ true → AllByRecursion Keeps xs) → (b ≡ false → AllByRecursion Keeps ys) → AllByRecursion Keeps (if b then xs else ys)
    if_keeps true xs ys f g = f refl
    if_keeps false xs ys f g = g refl

    input_keeps : (at start : ℕ) (links : List (Ident × NetExprModel)) (port : Port) → PortKeeps port → PortFed false (scope_at site) links port → IsTrue (list_all (covers_binding (scope_at site)) links)
        → Stands netlist.nets start (input_nets site at start links port) → AllByRecursion Keeps (input_nets site at start links port)
    input_keeps at start links port r f c k = if_keeps port.output [] _ (λ e. tt) (λ e.
        let l = stands_else netlist.nets start port.output [] (nets_if site at start (bound links port.name.name) ++ plain_net at port.width (gate.Wire (bound_out site start (bound links port.name.name))) ∷ []) e k in
        let m = stands_left netlist.nets start (nets_if site at start (bound links port.name.name)) _ l in
        all_append Keeps (nets_if site at start (bound links port.name.name)) _
        (bound_keeps at start port.width (bound links port.name.name) (f e) (covers_bound (scope_at site) links port.name.name c) m)
        (plain_keeps at port.width (gate.Wire (bound_out site start (bound links port.name.name))) r (bound_has at start port.width (bound links port.name.name) (f e) m)))

    inputs_keep : (at start : ℕ) (links : List (Ident × NetExprModel)) (ports : List Port) → AllByRecursion PortKeeps ports → AllByRecursion (PortFed false (scope_at site) links) ports
        → IsTrue (list_all (covers_binding (scope_at site)) links) → Stands netlist.nets start (inputs_nets site at start links ports) → AllByRecursion Keeps (inputs_nets site at start links ports)
    inputs_keep at start links [] r f c k = tt
    inputs_keep at start links (port ∷ ports) r f c k =
        all_append Keeps (input_nets site at start links port) _
        (input_keeps at start links port r.0 f.0 c (stands_left netlist.nets start (input_nets site at start links port) _ k))
        (inputs_keep at (start + count_input links port) links ports r.1 f.1 c
        (stands_right netlist.nets start (start + count_input links port) (input_nets site at start links port) _ (ap (λ (n : ℕ). start + n) (length_input site at start links port)) k))

    -- the equations' nets, and the wires that they feed
    equation_keeps : (at start : ℕ) (equations : List (Ident × NetExprModel)) (port : Port) → PortFed true (scope_at site) equations port → IsTrue (list_all (covers_binding (scope_at site)) equations)
        → Stands netlist.nets start (equation_nets site at start equations port) → AllByRecursion Keeps (equation_nets site at start equations port)
    equation_keeps at start equations port f c k = if_keeps port.output _ [] (λ e.
        bound_keeps at start port.width (bound equations port.name.name) (f e) (covers_bound (scope_at site) equations port.name.name c)
        (stands_then netlist.nets start port.output (nets_if site at start (bound equations port.name.name)) [] e k)) (λ e. tt)

    output_keeps : (at start : ℕ) (equations : List (Ident × NetExprModel)) (port : Port) → PortKeeps port → PortFed true (scope_at site) equations port
        → Stands netlist.nets start (equation_nets site at start equations port) → AllByRecursion Keeps (output_wire site at start equations port)
    output_keeps at start equations port r f k = if_keeps port.output _ [] (λ e.
        plain_keeps at port.width (gate.Wire (bound_out site start (bound equations port.name.name))) r
        (bound_has at start port.width (bound equations port.name.name) (f e)
        (stands_then netlist.nets start port.output (nets_if site at start (bound equations port.name.name)) [] e k))) (λ e. tt)

    outputs_keep : (at start : ℕ) (equations : List (Ident × NetExprModel)) (ports : List Port) → AllByRecursion PortKeeps ports → AllByRecursion (PortFed true (scope_at site) equations) ports
        → IsTrue (list_all (covers_binding (scope_at site)) equations) → Stands netlist.nets start (equations_nets site at start equations ports)
        → AllByRecursion Keeps (output_wires site at start equations ports) × AllByRecursion Keeps (equations_nets site at start equations ports)
    outputs_keep at start equations [] r f c k = (tt, tt)
    outputs_keep at start equations (port ∷ ports) r f c k =
        let l = stands_left netlist.nets start (equation_nets site at start equations port) _ k in
        let m = outputs_keep at (start + count_equation equations port) equations ports r.1 f.1 c
        (stands_right netlist.nets start (start + count_equation equations port) (equation_nets site at start equations port) _
        (ap (λ (n : ℕ). start + n) (length_equation site at start equations port)) k) in (
          all_append Keeps (output_wire site at start equations port) _ (output_keeps at start equations port r.0 f.0 l) m.0,
          all_append Keeps (equation_nets site at start equations port) _ (equation_keeps at start equations port f.0 c l) m.1,
        )

-- ---- items

array_keeps : (netlist : Netlist) (space : Space) (cells : Cells) → IsWidth cells.width → IsWidth cells.addr_width → ArrayFits netlist cells → StorageKeeps netlist (storage_in space cells)
array_keeps netlist InMemory cells w a f = (w, a, f)
array_keeps netlist InFile cells w a f = (w, a, f)

module _ (edition : ℕ) (text : List UnitModel) (keep : IsElaborable text) where
  abbrev Kept : Net → Type 0
  Kept x = NetKeeps (netlist_in edition text) (Some x)

  -- what an item gives keeps the rules
  pub record ItemFormed (e : UnitModel) (start storage number : ℕ) : Type 0 where
    pub nets_keep : AllByRecursion Kept (item_nets text start storage number e)
    pub storages_keep : AllByRecursion (StorageKeeps (netlist_in edition text)) (item_storages text start e)
    pub codes_keep : AllByRecursion (CodeKeeps (netlist_in edition text)) (item_codes text e)

  counter_is : (name : List ℕ) (o : Option UnitModel) → item_named text name ≡ o → IsRegisterItem o → IsRegister (slice_get (netlist_in edition text).storages (storage_named text name))
  counter_is name (Some (register kind own width input when)) e h =
      let f = found edition text keep name (register kind own width input when) e in
      rw (f.storage_is, f.there.storages_there.0) tt
  counter_is name None e h = absurd h
  counter_is name (Some (code own bits size counter)) e h = absurd h
  counter_is name (Some (memory space own width size addr_width value addr when)) e h = absurd h
  counter_is name (Some (net own width value)) e h = absurd h
  counter_is name (Some (bus own width drivers)) e h = absurd h
  counter_is name (Some (module_item own ports equations)) e h = absurd h
  counter_is name (Some (part own of links)) e h = absurd h

  item_formed : (e : UnitModel) (start storage number : ℕ) → ItemKeeps text e → IsDriven text e → Located (netlist_in edition text) text e start storage number → ItemFormed e start storage number
  item_formed (code name bits size counter) start storage number k d l =
      let s = l.codes_there.0 in
      record {
        nets_keep = plain_keeps (netlist_in edition text) name.at bits (gate.Word number) k.0 (slice_get_within (netlist_in edition text).codes number _ s, ap code_bits s);
        storages_keep = tt;
        codes_keep = ((width_range bits k.0, counter_is counter.name (item_named text counter.name) refl k.2), tt);
      }
  item_formed (register kind name width input when) start storage number k d l =
      let ns = (netlist_in edition text).nets in
      let xs = elaborated (of_text text) name.at start input in
      let ys = nets_if (of_text text) name.at (start + count input) when in
      let s = l.storages_there.0 in
      let lxy = stands_left ns start (xs ++ ys) _ l.nets_there in
      let lx = stands_left ns start xs ys lxy in
      let ly = stands_right ns start (start + count input) xs ys (ap (λ (n : ℕ). start + n) (length_nets (of_text text) name.at start input)) lxy in
      let sound = text_sound edition text keep in
      record {
        nets_keep = all_append Kept (xs ++ ys) _
            (all_append Kept xs ys (keeps (netlist_in edition text) (of_text text) sound name.at start input width k.1 (and_left (covers (in_text text) input) (covers_if (in_text text) when) d) lx)
            (when_keeps (netlist_in edition text) (of_text text) sound name.at (start + count input) when k.2 (and_right (covers (in_text text) input) (covers_if (in_text text) when) d) ly))
            (plain_keeps (netlist_in edition text) name.at width (gate.Reg storage) k.0 (rw s tt, ap storage_bits s));
        storages_keep = (
          (
            width_range width k.0,
            (out_has (netlist_in edition text) (of_text text) sound name.at start input width k.1 lx, when_fits (netlist_in edition text) (of_text text) sound name.at (start + count input) when k.2 ly),
          ),
          tt,
        );
        codes_keep = tt;
      }
  item_formed (memory space name width size addr_width value addr when) start storage number k d l =
      let ns = (netlist_in edition text).nets in
      let xs = elaborated (of_text text) name.at start value in
      let ys = elaborated (of_text text) name.at (start + count value) addr in
      let zs = nets_if (of_text text) name.at (start + count value + count addr) when in
      let lxy = stands_left ns start (xs ++ ys) zs l.nets_there in
      let lx = stands_left ns start xs ys lxy in
      let ly = stands_right ns start (start + count value) xs ys (ap (λ (n : ℕ). start + n) (length_nets (of_text text) name.at start value)) lxy in
      let lz = stands_right ns start (start + count value + count addr) (xs ++ ys) zs
      (omega (arith, length-append xs ys, length_nets (of_text text) name.at start value, length_nets (of_text text) name.at (start + count value) addr)) l.nets_there in
      let sound = text_sound edition text keep in
      let front = and_left (covers (in_text text) value && covers (in_text text) addr) (covers_if (in_text text) when) d in
      record {
        nets_keep = all_append Kept (xs ++ ys) zs
            (all_append Kept xs ys
            (keeps (netlist_in edition text) (of_text text) sound name.at start value width k.3 (and_left (covers (in_text text) value) (covers (in_text text) addr) front) lx)
            (keeps (netlist_in edition text) (of_text text) sound name.at (start + count value) addr addr_width k.4 (and_right (covers (in_text text) value) (covers (in_text text) addr) front) ly))
            (when_keeps (netlist_in edition text) (of_text text) sound name.at (start + count value + count addr) when k.5
            (and_right (covers (in_text text) value && covers (in_text text) addr) (covers_if (in_text text) when) d) lz);
        storages_keep = (
          array_keeps (netlist_in edition text) space _ (width_range width k.0) (width_range addr_width k.1) (
            out_has (netlist_in edition text) (of_text text) sound name.at start value width k.3 lx,
            out_has (netlist_in edition text) (of_text text) sound name.at (start + count value) addr addr_width k.4 ly,
            when_fits (netlist_in edition text) (of_text text) sound name.at (start + count value + count addr) when k.5 lz,
          ),
          tt,
        );
        codes_keep = tt;
      }
  item_formed (net name width value) start storage number k d l =
      let xs = elaborated (of_text text) name.at start value in
      let lx = stands_left (netlist_in edition text).nets start xs _ l.nets_there in
      let sound = text_sound edition text keep in
      record {
        nets_keep = all_append Kept xs _ (keeps (netlist_in edition text) (of_text text) sound name.at start value width k.1 d lx)
            (plain_keeps (netlist_in edition text) name.at width (gate.Wire (out_of (of_text text) start value)) k.0 (out_has (netlist_in edition text) (of_text text) sound name.at start value width k.1 lx));
        storages_keep = tt;
        codes_keep = tt;
      }
  item_formed (bus name width drivers) start storage number k d l =
      let xs = elaborated_drivers (of_text text) name.at start drivers in
      let r = drivers_keep (netlist_in edition text) (of_text text) (text_sound edition text keep) name.at start width drivers k.1 d (stands_left (netlist_in edition text).nets start xs _ l.nets_there) in
      record {
        nets_keep = all_append Kept xs _ r.0 (plain_keeps (netlist_in edition text) name.at width (gate.Bus (driver_pairs (of_text text) start drivers)) k.0 r.1);
        storages_keep = tt;
        codes_keep = tt;
      }
  item_formed (module_item name ports equations) start storage number k d l = record { nets_keep = tt; storages_keep = tt; codes_keep = tt }
  item_formed (part name of links) start storage number k d l =
      let ports = ports_of (item_named text of.name) in
      let equations = equations_of (item_named text of.name) in
      let m = module_of edition text keep of.name in
      let s = part_stands edition text keep name.at start links ports equations l.nets_there in
      let within = inside_sound (netlist_in edition text) name.at start (of_text text) links ports m.ports_keep s.inputs_there in
      let first = start + count_inputs links ports + count_outputs ports in
      let o = outputs_keep (netlist_in edition text) (inside start links ports) within name.at first equations ports m.ports_keep m.outputs_fed m.equations_cover s.equations_there in
      record {
        nets_keep = all_append Kept (inputs_nets (of_text text) name.at start links ports ++ output_wires (inside start links ports) name.at first equations ports) _
            (all_append Kept (inputs_nets (of_text text) name.at start links ports) _
            (inputs_keep (netlist_in edition text) (of_text text) (text_sound edition text keep) name.at start links ports m.ports_keep k
            (and_right (drives_once false ports links) (list_all (covers_binding (in_text text)) links) d) s.inputs_there) o.0) o.1;
        storages_keep = tt;
        codes_keep = tt;
      }

  -- ---- all items

  pub record AllFormed (entries : List UnitModel) (start storage number : ℕ) : Type 0 where
    pub nets_keep : AllByRecursion Kept (nets_from text start storage number entries)
    pub storages_keep : AllByRecursion (StorageKeeps (netlist_in edition text)) (storages_from text start entries)
    pub codes_keep : AllByRecursion (CodeKeeps (netlist_in edition text)) (codes_from text entries)

  all_formed : (entries : List UnitModel) (start storage number : ℕ) → AllByRecursion (ItemKeeps text) entries → AllByRecursion (IsDriven text) entries
      → AllLocated (netlist_in edition text) text entries start storage number → AllFormed entries start storage number
  all_formed [] start storage number k d l = record { nets_keep = tt; storages_keep = tt; codes_keep = tt }
  all_formed (e ∷ entries) start storage number k d l =
      let x = item_formed e start storage number k.0 d.0 (first_located (netlist_in edition text) text e entries start storage number l) in
      let r = all_formed entries (start + count_item text e) (storage + count_storages e) (number + count_codes e) k.1 d.1 (others_located (netlist_in edition text) text e entries start storage number l) in
      record {
        nets_keep = all_append Kept (item_nets text start storage number e) _ x.nets_keep r.nets_keep;
        storages_keep = all_append (StorageKeeps (netlist_in edition text)) (item_storages text start e) _ x.storages_keep r.storages_keep;
        codes_keep = all_append (CodeKeeps (netlist_in edition text)) (item_codes text e) _ x.codes_keep r.codes_keep;
      }

  net_at : (nets : List Net) → AllByRecursion Kept nets → (n : ℕ) → NetKeeps (netlist_in edition text) (slice_get nets n)
  net_at [] h n = tt
  net_at (x ∷ nets) h zero = h.0
  net_at (x ∷ nets) h (suc n) = net_at nets h.1 n

  -- ---- limits

  below_size : (size : ℕ) → IsTrue (nat_le size 65536) → size ≤ 65536
  below_size size h = grind (arith, nat_tests)

  below_most : (space : Space) (size : ℕ) → IsTrue (nat_le size (most_cells edition space)) → size ≤ most_cells edition space
  below_most space size h = grind (arith, nat_tests)

  cells_few : (e : UnitModel) (start : ℕ) → ((space : Space) → IsSmall edition space e) → AllByRecursion (HasFewCells edition) (item_storages text start e)
  cells_few (code name bits size counter) start k = tt
  cells_few (register kind name width input when) start k = (tt, tt)
  cells_few (memory InMemory name width size addr_width value addr when) start k = (below_most InMemory size (k InMemory), tt)
  cells_few (memory InFile name width size addr_width value addr when) start k = (below_most InFile size (k InFile), tt)
  cells_few (net name width value) start k = tt
  cells_few (bus name width drivers) start k = tt
  cells_few (module_item name ports equations) start k = tt
  cells_few (part name of links) start k = tt

  all_cells : (entries : List UnitModel) (start : ℕ) → ((space : Space) → AllByRecursion (IsSmall edition space) entries) → AllByRecursion (HasFewCells edition) (storages_from text start entries)
  all_cells [] start k = tt
  all_cells (e ∷ entries) start k =
      all_append (HasFewCells edition) (item_storages text start e) _ (cells_few e start (λ space. (k space).0)) (all_cells entries (start + count_item text e) (λ space. (k space).1))

  abbrev HasFewWords : Code → Type 0
  HasFewWords made = made.words ≤ 65536

  words_few : (e : UnitModel) → ItemKeeps text e → AllByRecursion HasFewWords (item_codes text e)
  words_few (code name bits size counter) k = (below_size size k.1, tt)
  words_few (register kind name width input when) k = tt
  words_few (memory space name width size addr_width value addr when) k = tt
  words_few (net name width value) k = tt
  words_few (bus name width drivers) k = tt
  words_few (module_item name ports equations) k = tt
  words_few (part name of links) k = tt

  all_words : (entries : List UnitModel) → AllByRecursion (ItemKeeps text) entries → AllByRecursion HasFewWords (codes_from text entries)
  all_words [] k = tt
  all_words (e ∷ entries) k = all_append HasFewWords (item_codes text e) _ (words_few e k.0) (all_words entries k.1)

  registers_append : (xs ys : List Storage) → register_count (xs ++ ys) ≡ register_count xs + register_count ys
  registers_append [] ys = let e : register_count ys ≡ 0 + register_count ys = omega arith in e
  registers_append (Register name width input when ∷ xs) ys = let e = registers_append xs ys in omega arith
  registers_append (Memory cells ∷ xs) ys = registers_append xs ys
  registers_append (File cells ∷ xs) ys = registers_append xs ys

  item_registers : (e : UnitModel) (start : ℕ) → register_count (item_storages text start e) ≡ count_register e
  item_registers (code name bits size counter) start = refl
  item_registers (register kind name width input when) start = refl
  item_registers (memory InMemory name width size addr_width value addr when) start = refl
  item_registers (memory InFile name width size addr_width value addr when) start = refl
  item_registers (net name width value) start = refl
  item_registers (bus name width drivers) start = refl
  item_registers (module_item name ports equations) start = refl
  item_registers (part name of links) start = refl

  all_registers : (entries : List UnitModel) (start : ℕ) → register_count (storages_from text start entries) ≡ count_registers entries
  all_registers [] start = refl
  all_registers (e ∷ entries) start =
      let r = all_registers entries (start + count_item text e) in
      omega (arith, registers_append (item_storages text start e) (storages_from text (start + count_item text e) entries), item_registers e start)

  within_limits : IsFewIn edition text → IsWithinLimits (netlist_in edition text)
  within_limits few = record {
    nets = omega (arith, length_items text 0 0 0 text, few.nets);
    registers = omega (arith, all_registers text 0, keep.few_registers);
    cells = all_cells text 0 few.cells;
    words = all_words text keep.items;
  }

  pub formed : IsFewIn edition text → IsWellFormed (netlist_in edition text)
  formed few =
      let a = all_formed text 0 0 0 keep.items keep.driven (all_located edition text keep) in
      record {
        names = names_differ edition text keep.names;
        nets = net_at (nets_from text 0 0 0 text) a.nets_keep;
        storages = a.storages_keep;
        codes = a.codes_keep;
        special = special_is text edition;
        limits = within_limits few;
      }

-- ---- answers that are the netlist of a text, where the text is seen as another that is the same

pub answer_same : {E : Type 0} (edition : ℕ) (text seen : List UnitModel) → seen ≡ text → (r : Result Netlist E) → IfOk r (λ made. made ≡ netlist_in edition seen) → IfOk r (λ made. made ≡ netlist_in edition text)
answer_same edition text seen same (Ok made) is = is ∙ ap (netlist_in edition) same
answer_same edition text seen same (Err e) is = tt

pub answer_formed : {E : Type 0} (edition : ℕ) (text seen : List UnitModel) → IsElaborable text → IsFewIn edition text → seen ≡ text → (r : Result Netlist E) → IfOk r (λ made. made ≡ netlist_in edition seen) → IfOk r IsWellFormed
answer_formed edition text seen keep few same (Ok made) is = subst IsWellFormed (sym (is ∙ ap (netlist_in edition) same)) (formed edition text keep few)
answer_formed edition text seen keep few same (Err e) is = tt
