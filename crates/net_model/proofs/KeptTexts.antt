-- A text that breaks none of the rules of texts has a netlist that keeps the rules of netlists.
use Rattle.std.proofs.Common.{ℕ, zero, suc, ◌≡◌, ◌^◌, ◌<◌, ◌≤◌, ◌&&◌, ◌||◌, if◌then◌else◌, Bool, true, false, not, List, [], ◌∷◌, ◌++◌, length, map, max, Option, Some, None, is_some, slice_get, nat_le, refl, ap, ◌∙◌, subst, arith, IsTrue}
use Rattle.std.proofs.lemmas.Bool.Decides.{nat_tests}
use Rattle.std.specs.Cmp.Lexicographic.{bytes_decides}
use Rattle.std.specs.List.{AllByRecursion, list_all}
use Rattle.rec_bits.proofs.Booleans.{and_left, and_right, left_false, right_false}
use Rattle.rec_bits.specs.Faults.{least, gather, offsets_if}
use Rattle.rec_bits.proofs.Faults.{least_none}
use Rattle.net_model.proofs.ByEdition.{nets_within}
use Rattle.net_model.proofs.Memories.{most_within}
use Rattle.net_model.specs.declared.hardware.Space.{Space}
use Rattle.net_model.specs.declared.hardware.Space.TheVariants.{Memory as InMemory, File as InFile}
use Rattle.net_model.specs.declared.fault.NetFault.{NetFault}
use Rattle.net_model.specs.declared.fault.NetFault.TheVariants.{Duplicate, Unknown, Width, Driver}
use Rattle.net_model.specs.declared.fault.NetKind.{NetKind}
use Rattle.net_model.specs.declared.fault.NetKind.TheVariants.{Nets, Registers, Cells, Words, File}
use Rattle.grammar.specs.declared.words.Ident.{Ident}
use Rattle.net_model.specs.declared.units.Port.{Port}
use Rattle.net_model.specs.Written.{UnitModel, code, register, memory, net, bus, module_item, part, NetExprModel}
use Rattle.net_model.specs.TextNames.{own_name, place_named, item_named, is_port, port_named, ScopeModel, in_text, in_module}
use Rattle.rec_bits.specs.Faults.{same_name}
use Rattle.net_model.specs.TextWidths.{wide, is_width, port_width, ports_of}
use Rattle.net_model.specs.NameRules.{is_among, repeated, port_name, repeated_ports, duplicates, is_register, unknown_in_item, unknowns}
use Rattle.net_model.specs.WidthRules.{has_width, feeds, enables, driver_feeds, binding_feeds, feeds_port, port_keeps, widths_fit, misfit, misfits}
use Rattle.net_model.specs.DriverRules.{names_new, is_driven, drives_once, binding_name, covers_binding, is_driven_item, undriven, undrivens}
use Rattle.net_model.specs.Editions.{is_banked}
use Rattle.net_model.specs.LimitRules.{count_registers, cells_of, data_size, file_size, most_cells, most_nets, words_of_unit, greatest, over, limit_fault}
use Rattle.rec_bits.specs.Faults.{or_else}
use Rattle.rec_bits.specs.Counts.{capped}
use Rattle.net_model.specs.TextRules.{first_fault}
use Rattle.rec_bits.specs.Faults.{fault_at}
use Rattle.net_model.specs.Numbering.{bound, count_items}
use Rattle.net_model.specs.Elaborable.{Feeds, FeedsIf, DriverFeeds, IsBound, PortFed, PortKeeps, IsRegisterItem, ItemKeeps, item_names, IsDriven, IsElaborable, IsFewIn, IsSmall}

-- ---- a rule that is broken nowhere

left_none : (xs ys : List ℕ) → xs ++ ys ≡ [] → xs ≡ []
left_none [] ys h = refl
left_none (x ∷ xs) ys h = absurd (cc h)

right_none : (xs ys : List ℕ) → xs ++ ys ≡ [] → ys ≡ []
right_none [] ys h = h
right_none (x ∷ xs) ys h = absurd (cc h)

gather_none : {A : Type 0} (f : A → List ℕ) (xs : List A) → gather f xs ≡ [] → AllByRecursion (λ x. f x ≡ []) xs
gather_none f [] h = tt
gather_none f (x ∷ xs) h = (left_none (f x) (gather f xs) h, gather_none f xs (right_none (f x) (gather f xs) h))

kept : (b : Bool) (at : ℕ) → offsets_if (not b) at ≡ [] → IsTrue b
kept true at h = refl
kept false at h = absurd (cc h)

not_broken : (b : Bool) (at : ℕ) → offsets_if b at ≡ [] → b ≡ false
not_broken true at h = absurd (cc h)
not_broken false at h = refl

both_none : (a b : Option NetFault) → or_else a b ≡ None → (a ≡ None) × (b ≡ None)
both_none None b h = (refl, h)
both_none (Some fault) b h = absurd (cc h)

at_none : (rule : ℕ → NetFault) (o : Option ℕ) → fault_at rule o ≡ None → o ≡ None
at_none rule None h = refl
at_none rule (Some at) h = absurd (cc h)

rule_kept : (rule : ℕ → NetFault) (offsets : List ℕ) → fault_at rule (least offsets) ≡ None → offsets ≡ []
rule_kept rule offsets h = least_none offsets (at_none rule (least offsets) h)

-- ---- tests

both_hold : (a b : Bool) → a ≡ false → IsTrue b → IsTrue (not a && b)
both_hold true b h k = absurd (cc h)
both_hold false b h k = k

all_pass : {A : Type 0} (test : A → Bool) (P : A → Type 0) → ((x : A) → IsTrue (test x) → P x) → (xs : List A) → IsTrue (list_all test xs) → AllByRecursion P xs
all_pass test P f [] h = tt
all_pass test P f (x ∷ xs) h =
    (f x (and_left (test x) (list_all test xs) h), all_pass test P f xs (and_right (test x) (list_all test xs) h))

all_both : {A : Type 0} (P Q R : A → Type 0) → ((x : A) → P x → Q x → R x) → (xs : List A) → AllByRecursion P xs → AllByRecursion Q xs → AllByRecursion R xs
all_both P Q R f [] h k = tt
all_both P Q R f (x ∷ xs) h k = (f x h.0 k.0, all_both P Q R f xs h.1 k.1)

-- ---- names

same_self : (name : List ℕ) → same_name name name ≡ true
same_self name = (bytes_decides name name).1 refl

items_new : (before : List (List ℕ)) (text : List UnitModel) → repeated before (map own_name text) ≡ [] → IsTrue (names_new before (item_names text))
items_new before [] h = refl
items_new before (e ∷ text) h =
    let offsets = offsets_if (is_among before (own_name e).name) (own_name e).at in
    let later = repeated ((own_name e).name ∷ before) (map own_name text) in
    both_hold (is_among before (own_name e).name) (names_new ((own_name e).name ∷ before) (item_names text))
    (not_broken (is_among before (own_name e).name) (own_name e).at (left_none offsets later h))
    (items_new ((own_name e).name ∷ before) text (right_none offsets later h))

-- ---- ports

abbrev Differs : List ℕ → Port → Type 0
Differs name port = same_name name port.name.name ≡ false

-- the ports behind others have other names
ports_differ : (name : List ℕ) (before : List (List ℕ)) (ports : List Port) → ((m : List ℕ) → is_among before m ≡ false → same_name name m ≡ false)
    → repeated before (map port_name ports) ≡ [] → AllByRecursion (Differs name) ports
ports_differ name before [] f h = tt
ports_differ name before (p ∷ ports) f h =
    let offsets = offsets_if (is_among before p.name.name) p.name.at in
    let later = repeated (p.name.name ∷ before) (map port_name ports) in (
      f p.name.name (not_broken (is_among before p.name.name) p.name.at (left_none offsets later h)),
      ports_differ name (p.name.name ∷ before) ports (λ m e. f m (right_false (same_name p.name.name m) (is_among before m) e)) (right_none offsets later h),
    )

-- a port is the one of its direction and name
abbrev OwnPort : Bool → List Port → Port → Type 0
OwnPort output ports p = p.output ≡ output → port_named output ports p.name.name ≡ Some p

is_own : (output : Bool) (p : Port) → p.output ≡ output → is_port output p.name.name p ≡ true
is_own true p h = rw (h, same_self p.name.name) refl
is_own false p h = rw (h, same_self p.name.name) refl

own_first : (output : Bool) (p : Port) (ports : List Port) → OwnPort output (p ∷ ports) p
own_first output p ports h = ap (λ (b : Bool). if b then Some p else port_named output ports p.name.name) (is_own output p h)

fails_under : (a b : Bool) → b ≡ false → a && b ≡ false
fails_under true b h = h
fails_under false b h = refl

fails_beside : (a b : Bool) → b ≡ false → (if a then false else b) ≡ false
fails_beside true b h = refl
fails_beside false b h = h

is_no_port : (output : Bool) (p : Port) (name : List ℕ) → same_name p.name.name name ≡ false → is_port output name p ≡ false
is_no_port true p name h = fails_under p.output (same_name p.name.name name) h
is_no_port false p name h = fails_beside p.output (same_name p.name.name name) h

own_later : (output : Bool) (p : Port) (ports : List Port) (q : Port) → Differs p.name.name q → OwnPort output ports q → OwnPort output (p ∷ ports) q
own_later output p ports q differs own h =
    ap (λ (b : Bool). if b then Some p else port_named output ports q.name.name) (is_no_port output p q.name.name differs) ∙ own h

own_ports : (output : Bool) (before : List (List ℕ)) (ports : List Port) → repeated before (map port_name ports) ≡ [] → AllByRecursion (OwnPort output ports) ports
own_ports output before [] h = tt
own_ports output before (p ∷ ports) h =
    let offsets = offsets_if (is_among before p.name.name) p.name.at in
    let later = repeated (p.name.name ∷ before) (map port_name ports) in
    let others = right_none offsets later h in (
      own_first output p ports,
      all_both (Differs p.name.name) (OwnPort output ports) (OwnPort output (p ∷ ports)) (own_later output p ports) ports
          (ports_differ p.name.name (p.name.name ∷ before) ports (λ m e. left_false (same_name p.name.name m) (is_among before m) e) others)
          (own_ports output (p.name.name ∷ before) ports others),
    )

-- ---- widths

has_width_is : (o : Option ℕ) (width : ℕ) → IsTrue (has_width o width) → o ≡ Some width
has_width_is None width h = absurd (cc h)
has_width_is (Some found) width h = let e : found ≡ width = grind (arith, nat_tests) in ap Some e

feeds_is : (s : ScopeModel) (width : ℕ) (a : NetExprModel) → IsTrue (feeds s width a) → Feeds s width a
feeds_is s width a h = has_width_is (wide s a) width h

enables_is : (s : ScopeModel) (when : Option NetExprModel) → IsTrue (enables s when) → FeedsIf s 1 when
enables_is s None h = tt
enables_is s (Some a) h = feeds_is s 1 a h

driver_is : (s : ScopeModel) (width : ℕ) (driver : NetExprModel × NetExprModel) → IsTrue (driver_feeds s width driver) → DriverFeeds s width driver
driver_is s width driver h = (
  feeds_is s width driver.0 (and_left (feeds s width driver.0) (feeds s 1 driver.1) h),
  feeds_is s 1 driver.1 (and_right (feeds s width driver.0) (feeds s 1 driver.1) h),
)

-- ---- bindings

module _ (output : Bool) (ports : List Port) (s : ScopeModel) (p : Port) (own : port_named output ports p.name.name ≡ Some p) where
  binding_is : (binding : Ident × NetExprModel) → same_name binding.0.name p.name.name ≡ true → IsTrue (binding_feeds output ports s binding) → Feeds s p.width binding.1
  binding_is binding same h =
      let e : port_named output ports binding.0.name ≡ Some p = ap (port_named output ports) ((bytes_decides binding.0.name p.name.name).0 same) ∙ own in
      feeds_is s p.width binding.1 (subst (λ (o : Option Port). IsTrue (feeds_port s (port_width o) binding.1)) e h)

  by_name : (b : Bool) (binding : Ident × NetExprModel) (found : Option NetExprModel) → same_name binding.0.name p.name.name ≡ b → IsTrue (binding_feeds output ports s binding)
      → (IsTrue (is_some found) → IsBound s p.width found) → IsTrue (is_some (if b then Some binding.1 else found)) → IsBound s p.width (if b then Some binding.1 else found)
  by_name true binding found same h f k = binding_is binding same h
  by_name false binding found same h f k = f k

  -- what is bound to a port has its width
  bound_is : (bindings : List (Ident × NetExprModel)) → IsTrue (list_all (binding_feeds output ports s) bindings) → IsTrue (is_some (bound bindings p.name.name)) → IsBound s p.width (bound bindings p.name.name)
  bound_is [] h k = absurd (cc k)
  bound_is (binding ∷ bindings) h k =
      let here = and_left (binding_feeds output ports s binding) (list_all (binding_feeds output ports s) bindings) h in
      let later = and_right (binding_feeds output ports s binding) (list_all (binding_feeds output ports s) bindings) h in
      by_name (same_name binding.0.name p.name.name) binding (bound bindings p.name.name) refl here (bound_is bindings later) k

second_of : (a b : Bool) → a ≡ false → IsTrue (a || b) → IsTrue b
second_of true b e h = absurd (cc e)
second_of false b e h = h

second_of_not : (a b : Bool) → a ≡ true → IsTrue (not a || b) → IsTrue b
second_of_not true b e h = h
second_of_not false b e h = absurd (cc e)

port_fed : (output : Bool) (ports : List Port) (s : ScopeModel) (bindings : List (Ident × NetExprModel)) → IsTrue (list_all (binding_feeds output ports s) bindings)
    → (p : Port) → IsTrue (is_driven output bindings p) → OwnPort output ports p → PortFed output s bindings p
port_fed true ports s bindings h p driven own =
    λ e. bound_is true ports s p (own e) bindings h (second_of_not p.output (is_some (bound bindings p.name.name)) e driven)
port_fed false ports s bindings h p driven own =
    λ e. bound_is false ports s p (own e) bindings h (second_of p.output (is_some (bound bindings p.name.name)) e driven)

ports_fed : (output : Bool) (ports : List Port) (s : ScopeModel) (bindings : List (Ident × NetExprModel)) → repeated [] (map port_name ports) ≡ []
    → IsTrue (list_all (binding_feeds output ports s) bindings) → IsTrue (drives_once output ports bindings) → AllByRecursion (PortFed output s bindings) ports
ports_fed output ports s bindings apart h once =
    let driven = and_left (list_all (is_driven output bindings) ports) (names_new [] (map binding_name bindings)) once in
    all_both (λ p. IsTrue (is_driven output bindings p)) (OwnPort output ports) (PortFed output s bindings) (port_fed output ports s bindings h) ports
    (all_pass (is_driven output bindings) (λ p. IsTrue (is_driven output bindings p)) (λ p d. d) ports driven)
    (own_ports output [] ports apart)

-- ---- items

register_item : (o : Option UnitModel) → IsTrue (is_register o) → IsRegisterItem o
register_item (Some (register kind name width input when)) h = tt
register_item _ h = absurd (cc h)

item_ports_apart : (e : UnitModel) → repeated_ports e ≡ [] → repeated [] (map port_name (ports_of (Some e))) ≡ []
item_ports_apart (module_item name ports equations) h = h
item_ports_apart _ h = refl

ports_apart_at : (text : List UnitModel) (i : ℕ) → AllByRecursion (λ e. repeated_ports e ≡ []) text → repeated [] (map port_name (ports_of (slice_get text i))) ≡ []
ports_apart_at [] i h = refl
ports_apart_at (e ∷ text) zero h = item_ports_apart e h.0
ports_apart_at (e ∷ text) (suc i) h = ports_apart_at text i h.1

module _ (text : List UnitModel) (apart : AllByRecursion (λ e. repeated_ports e ≡ []) text) where
  item_keeps : (e : UnitModel) → repeated_ports e ≡ [] → unknown_in_item text e ≡ [] → IsTrue (widths_fit text e) → IsTrue (is_driven_item text e)
      → ((space : Space) → IsTrue (nat_le (cells_of space e) 65536)) → IsTrue (nat_le (words_of_unit e) 65536) → ItemKeeps text e
  item_keeps (code name bits size counter) own known fit driven cells words =
      (fit, words, register_item (item_named text counter.name) (kept (is_register (item_named text counter.name)) counter.at known))
  item_keeps (register kind name width input when) own known fit driven cells words =
      let a = and_left (is_width width && feeds (in_text text) width input) (enables (in_text text) when) fit in (
        and_left (is_width width) (feeds (in_text text) width input) a,
        feeds_is (in_text text) width input (and_right (is_width width) (feeds (in_text text) width input) a),
        enables_is (in_text text) when (and_right (is_width width && feeds (in_text text) width input) (enables (in_text text) when) fit),
      )
  item_keeps (memory space name width size addr_width value addr when) own known fit driven cells words =
      let s = in_text text in
      let x = is_width width in
      let y = is_width addr_width in
      let v = feeds s width value in
      let w = feeds s addr_width addr in
      let a = and_left (x && y && v && w) (enables s when) fit in
      let b = and_left (x && y && v) w a in
      let c = and_left (x && y) v b in
      let few : (own : Space) → ((space : Space) → IsTrue (nat_le (cells_of space (memory own name width size addr_width value addr when)) 65536)) → IsTrue (nat_le size 65536) =
      λ own h. elim own as (λ own. ((space : Space) → IsTrue (nat_le (cells_of space (memory own name width size addr_width value addr when)) 65536)) → IsTrue (nat_le size 65536)) [ InMemory ↦ λ h. h InMemory | InFile ↦ λ h. h InFile ] h in (
        and_left x y c,
        and_right x y c,
        few space cells,
        feeds_is s width value (and_right (x && y) v b),
        feeds_is s addr_width addr (and_right (x && y && v) w a),
        enables_is s when (and_right (x && y && v && w) (enables s when) fit),
      )
  item_keeps (net name width value) own known fit driven cells words = (
    and_left (is_width width) (feeds (in_text text) width value) fit,
    feeds_is (in_text text) width value (and_right (is_width width) (feeds (in_text text) width value) fit),
  )
  item_keeps (bus name width drivers) own known fit driven cells words = (
    and_left (is_width width) (list_all (driver_feeds (in_text text) width) drivers) fit,
    all_pass (driver_feeds (in_text text) width) (DriverFeeds (in_text text) width) (driver_is (in_text text) width) drivers
        (and_right (is_width width) (list_all (driver_feeds (in_text text) width) drivers) fit),
  )
  item_keeps (module_item name ports equations) own known fit driven cells words =
      let widths = list_all port_keeps ports in
      let feeding = list_all (binding_feeds true ports (in_module ports)) equations in (
        all_pass port_keeps PortKeeps (λ p h. h) ports (and_left widths feeding fit),
        ports_fed true ports (in_module ports) equations own (and_right widths feeding fit)
            (and_left (drives_once true ports equations) (list_all (covers_binding (in_module ports)) equations) driven),
      )
  item_keeps (part name of links) own known fit driven cells words =
      let ports = ports_of (item_named text of.name) in
      ports_fed false ports (in_text text) links (ports_apart_at text (place_named text of.name) apart) fit
      (and_left (drives_once false ports links) (list_all (covers_binding (in_text text)) links) driven)

  items_keep : (entries : List UnitModel) → AllByRecursion (λ e. repeated_ports e ≡ []) entries → AllByRecursion (λ e. unknown_in_item text e ≡ []) entries
      → AllByRecursion (λ e. misfit text e ≡ []) entries → AllByRecursion (λ e. undriven text e ≡ []) entries
      → ((space : Space) → AllByRecursion (λ e. IsTrue (nat_le (cells_of space e) 65536)) entries) → AllByRecursion (λ e. IsTrue (nat_le (words_of_unit e) 65536)) entries
      → AllByRecursion (ItemKeeps text) entries
  items_keep [] own known fit driven cells words = tt
  items_keep (e ∷ entries) own known fit driven cells words = (
    item_keeps e own.0 known.0 (kept (widths_fit text e) (own_name e).at fit.0) (kept (is_driven_item text e) (own_name e).at driven.0) (λ space. (cells space).0) words.0,
    items_keep entries own.1 known.1 fit.1 driven.1 (λ space. (cells space).1) words.1,
  )

  items_driven : (entries : List UnitModel) → AllByRecursion (λ e. undriven text e ≡ []) entries → AllByRecursion (IsDriven text) entries
  items_driven [] h = tt
  items_driven (e ∷ entries) h = (kept (is_driven_item text e) (own_name e).at h.0, items_driven entries h.1)

-- ---- limits

within_so : (b : Bool) (fault : NetFault) → (if b then None else Some fault) ≡ None → IsTrue b
within_so true fault h = refl
within_so false fault h = absurd (cc h)

within : (kind : NetKind) (limit count : ℕ) → over kind limit count ≡ None → IsTrue (nat_le count limit)
within kind limit count h = within_so (nat_le count limit) _ h

-- a count that is kept below a bound that no kept count reaches
told_below : (bound n : ℕ) → bound ≤ 4096 → IsTrue (nat_le (capped n) bound) → n ≤ bound
told_below bound n small h = let k : capped n ≤ bound = grind (arith, nat_tests) in omega arith

wider : (n limit bound : ℕ) → limit ≤ bound → IsTrue (nat_le n limit) → IsTrue (nat_le n bound)
wider n limit bound le h = let k : n ≤ limit = grind (arith, nat_tests) in let l : n ≤ bound = omega arith in grind (arith, nat_tests)

first_within : (a b limit : ℕ) → IsTrue (nat_le (max a b) limit) → IsTrue (nat_le a limit)
first_within a b limit h = let k : max a b ≤ limit = grind (arith, nat_tests) in let l : a ≤ limit = omega arith in grind (arith, nat_tests)

second_within : (a b limit : ℕ) → IsTrue (nat_le (max a b) limit) → IsTrue (nat_le b limit)
second_within a b limit h = let k : max a b ≤ limit = grind (arith, nat_tests) in let l : b ≤ limit = omega arith in grind (arith, nat_tests)

sizes_within : (size : UnitModel → ℕ) (limit : ℕ) (text : List UnitModel) → IsTrue (nat_le (greatest size text) limit) → AllByRecursion (λ e. IsTrue (nat_le (size e) limit)) text
sizes_within size limit [] h = tt
sizes_within size limit (e ∷ text) h =
    (first_within (size e) (greatest size text) limit h, sizes_within size limit text (second_within (size e) (greatest size text) limit h))

-- ---- texts

-- the sizes of the items of a space, of which those of a file and of a memory are kept
sizes_kept : (edition : ℕ) (text : List UnitModel) → IsTrue (nat_le (file_size edition text) 32) → IsTrue (nat_le (data_size edition text) 65536) → (space : Space)
    → IsTrue (nat_le (greatest (cells_of space) text) (most_cells edition space))
sizes_kept edition text small large InMemory = by (is_banked edition) large
  where
    by : (b : Bool) → IsTrue (nat_le (if b then max (greatest (cells_of InFile) text) (greatest (cells_of InMemory) text) else greatest (cells_of InMemory) text) 65536)
        → IsTrue (nat_le (greatest (cells_of InMemory) text) 65536)
    by true large = second_within (greatest (cells_of InFile) text) (greatest (cells_of InMemory) text) 65536 large
    by false large = large
sizes_kept edition text small large InFile = by (is_banked edition) small large
  where
    by : (b : Bool) → IsTrue (nat_le (if b then 0 else greatest (cells_of InFile) text) 32)
        → IsTrue (nat_le (if b then max (greatest (cells_of InFile) text) (greatest (cells_of InMemory) text) else greatest (cells_of InMemory) text) 65536)
        → IsTrue (nat_le (greatest (cells_of InFile) text) (if b then 65536 else 32))
    by true small large = first_within (greatest (cells_of InFile) text) (greatest (cells_of InMemory) text) 65536 large
    by false small large = small

-- the offsets of each rule are none, and the limits of an edition are kept
record KeepsAll (edition : ℕ) (text : List UnitModel) : Type 0 where
  no_duplicates : duplicates text ≡ []
  no_unknowns : unknowns text ≡ []
  no_misfits : misfits text ≡ []
  no_undrivens : undrivens text ≡ []
  nets : IsTrue (nat_le (capped (count_items text text)) (most_nets edition))
  registers : IsTrue (nat_le (capped (count_registers text)) 13)
  cells : (space : Space) → IsTrue (nat_le (greatest (cells_of space) text) (most_cells edition space))
  words : IsTrue (nat_le (greatest words_of_unit text) 65536)

keeps_all : (edition : ℕ) (text : List UnitModel) → first_fault edition text ≡ None → KeepsAll edition text
keeps_all edition text h =
    let a = both_none (fault_at Duplicate (least (duplicates text))) _ h in
    let b = both_none (fault_at Unknown (least (unknowns text))) _ a.1 in
    let c = both_none (fault_at Width (least (misfits text))) _ b.1 in
    let d = both_none (fault_at Driver (least (undrivens text))) (limit_fault edition text) c.1 in
    let e = both_none (over Nets (most_nets edition) (capped (count_items text text))) _ d.1 in
    let f = both_none (over Registers 13 (capped (count_registers text))) _ e.1 in
    let x = both_none (over File 32 (file_size edition text)) _ f.1 in
    let g = both_none (over Cells 65536 (data_size edition text)) (over Words 65536 (greatest words_of_unit text)) x.1 in
    record {
      no_duplicates = rule_kept Duplicate (duplicates text) a.0;
      no_unknowns = rule_kept Unknown (unknowns text) b.0;
      no_misfits = rule_kept Width (misfits text) c.0;
      no_undrivens = rule_kept Driver (undrivens text) d.0;
      nets = within Nets (most_nets edition) (capped (count_items text text)) e.0;
      registers = within Registers 13 (capped (count_registers text)) f.0;
      cells = sizes_kept edition text (within File 32 (file_size edition text) x.0) (within Cells 65536 (data_size edition text) g.0);
      words = within Words 65536 (greatest words_of_unit text) g.1;
    }

-- what an edition allows no edition has more of
loose : (edition : ℕ) (space : Space) (text : List UnitModel) → AllByRecursion (IsSmall edition space) text → AllByRecursion (λ e. IsTrue (nat_le (cells_of space e) 65536)) text
loose edition space [] h = tt
loose edition space (e ∷ text) h =
    (wider (cells_of space e) (most_cells edition space) 65536 (most_within edition space) h.0, loose edition space text h.1)

-- items that keep the rules have as much as their edition asks for
pub few_in_edition : (edition : ℕ) (text : List UnitModel) → first_fault edition text ≡ None → IsFewIn edition text
few_in_edition edition text h =
    let k = keeps_all edition text h in
    record {
      nets = told_below (most_nets edition) (count_items text text) (nets_within edition) k.nets;
      cells = λ space. sizes_within (cells_of space) (most_cells edition space) text (k.cells space);
    }

pub elaborable_of : (edition : ℕ) (text : List UnitModel) → first_fault edition text ≡ None → length text < 2 ^ 32 → IsElaborable text
elaborable_of edition text h few =
    let k = keeps_all edition text h in
    let of_edition = few_in_edition edition text h in
    let names = left_none (repeated [] (map own_name text)) (gather repeated_ports text) k.no_duplicates in
    let apart = gather_none repeated_ports text (right_none (repeated [] (map own_name text)) (gather repeated_ports text) k.no_duplicates) in
    let driven = gather_none (undriven text) text k.no_undrivens in
    record {
      names = items_new [] text names;
      items = items_keep text apart text apart (gather_none (unknown_in_item text) text k.no_unknowns) (gather_none (misfit text) text k.no_misfits) driven
          (λ space. loose edition space text (of_edition.cells space)) (sizes_within words_of_unit 65536 text k.words);
      driven = items_driven text apart text driven;
      few_nets = omega (arith, of_edition.nets, nets_within edition);
      few_registers = told_below 13 (count_registers text) (omega arith) k.registers;
      few_items = few;
    }
