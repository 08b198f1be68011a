-- What the netlist's control keeps, the view's keeps: N7 to N9 and N14.
use Rattle.std.proofs.Common.{◌≡◌, ℕ, zero, suc, ◌+◌, ◌<◌, ◌≤◌, ◌==◌, ◌&&◌, ◌||◌, not, if◌then◌else◌, Bool, true, false, List, [], ◌∷◌, ◌++◌, length, map, option_map, slice_get, Option, Some, None, refl, ap, sym, ◌∙◌, subst, arith, inl, inr}
use Rattle.std.specs.Prelude.{option_to_list}
use Rattle.std.specs.List.{AllByRecursion}
use Rattle.std.proofs.lemmas.Option.{slice_get_cases, slice_get_within}
use Rattle.rec_bits.proofs.Lists.{all_append, all_weaker, all_at}
use Rattle.rec_bits.specs.Faults.{gather}
use Rattle.rec_bits.specs.declared.operator.Op1.{Op1}
use Rattle.rec_bits.specs.declared.operator.Op1.TheVariants.{Neg, Not}
use Rattle.rec_bits.specs.declared.operator.Op2.{Op2}
use Rattle.rec_bits.specs.declared.operator.Op2.TheVariants.{Add, And, Eq, Ltu, Lts, Mul, Or, Sar, Shl, Shr, Sub, Xor}
use Rattle.net_model.specs.declared.flags.Property.{Property}
use Rattle.net_model.specs.declared.flags.Property.TheVariants.{Control, Static}
use Rattle.net_model.specs.declared.hardware.Net.{Net}
use Rattle.net_model.specs.declared.hardware.Netlist.{Netlist}
use Rattle.net_model.specs.declared.hardware.Gate.{Gate}
use Rattle.net_model.specs.declared.hardware.Gate.TheVariants.{Word, Reg, Read, Const, Wire, Un, Bin, Slice, Cat, Zext, Sext, Case, Bus}
use Rattle.net_model.specs.declared.hardware.Space.{Space}
use Rattle.net_model.specs.declared.hardware.Space.TheVariants.{Memory as InMemory, File as InFile}
use Rattle.net_model.specs.declared.hardware.Storage.{Storage}
use Rattle.net_model.specs.declared.hardware.Storage.TheVariants.{Register, Memory, File}
use Rattle.net_model.specs.Nets.{array_in, driver_nets, gate_nets, memory_id, nets_of, row_nets, space_at, width_at}
use Rattle.net_model.specs.Symbolic.{all_nets, is_static}
use Rattle.net_model.specs.Control.{AllPass, bus_enables, gate_enables, gate_selectors, is_selector, selectors, storage_enables, write_enables}
use Rattle.net_model.specs.Widths.{DriversFit, WhenFits}
use Rattle.net_model.specs.Flags.{has, is_control_pair}
use Rattle.net_model.specs.CheckedRules.{GateKeeps, HasNarrowSelectors, HasPlainControl, HasStaticEnables, HasStaticFileAddrs, NetKeeps, StorageKeeps, addr_in_file, count_in, gate_file_addrs, is_control, is_control_gate, is_plain, storage_file_addrs}
use Rattle.net_model.specs.Order.{IsOrder, position_of}
use Rattle.net_model.proofs.Offsets.{all_gather, all_parts, gather_all}
use Rattle.net_model.proofs.Told.{flag_is, step_of}
use Rattle.bank_view.specs.Banks.{bank_place, bank_port, memory_port, others, port_of}
use Rattle.bank_view.specs.Keeping.{KeepsBanks}
use Rattle.bank_view.specs.Views.{access_end, access_nets, bank_enable, enable_count, enable_nets, enable_number, join_nets, join_number, joined, memory_enable, net_number, numbering_of, renamed, renamed_drivers, renamed_rows, view_of}
use Rattle.bank_view.specs.Inner.Banked.{IsBeside}
use Rattle.bank_view.proofs.Beside.{banks_of, beside_of}
use Rattle.bank_view.proofs.Clocks.{bank_fits, memory_fits}
use Rattle.bank_view.proofs.Lists.{Holds, all_removed}
use Rattle.bank_view.proofs.Places.{all_view, bank_enable_there, before_within, join_there, memory_enable_there, net_there, number_within, view_width}
use Rattle.bank_view.proofs.Values.{view_space}

-- ---- gates

-- whether a gate may control doesn't depend on the nets that it names
one_control : (op : Op1) (a b : ℕ) → is_control_gate (Un op a) ≡ is_control_gate (Un op b)
one_control Not a b = refl
one_control Neg a b = refl

pair_control : (op : Op2) (a b : ℕ) → is_control_gate (Bin op a b) ≡ is_control_pair op
pair_control Add a b = refl
pair_control Sub a b = refl
pair_control Mul a b = refl
pair_control And a b = refl
pair_control Or a b = refl
pair_control Xor a b = refl
pair_control Shl a b = refl
pair_control Shr a b = refl
pair_control Sar a b = refl
pair_control Eq a b = refl
pair_control Ltu a b = refl
pair_control Lts a b = refl

module _ (d : Netlist) (f g : ℕ → Bool) where
  abbrev p : ℕ → ℕ
  p n = net_number d (numbering_of d) n

  -- the flags of these nets are the same
  abbrev SameAt : List ℕ → Type 0
  SameAt ms = AllByRecursion (λ m. f (p m) ≡ g m) ms

  same_names : (ms : List ℕ) → SameAt ms → all_nets f (map p ms) ≡ all_nets g ms
  same_names [] h = refl
  same_names (m ∷ ms) h = rw (h.0, same_names ms h.1) refl

  row_names : (rows : List (ℕ × ℕ)) (rest : Option ℕ) → row_nets (renamed_rows p rows) (option_map p rest) ≡ map p (row_nets rows rest)
  row_names [] None = refl
  row_names [] (Some rest) = refl
  row_names (row ∷ rows) rest = ap (λ (ms : List ℕ). p row.1 ∷ ms) (row_names rows rest)

  driver_names : (drivers : List (ℕ × ℕ)) → driver_nets (renamed_drivers p drivers) ≡ map p (driver_nets drivers)
  driver_names [] = refl
  driver_names (driver ∷ drivers) = ap (λ (ms : List ℕ). p driver.0 ∷ p driver.1 ∷ ms) (driver_names drivers)

  -- what a net's gate tells in the view is what it tells in the netlist
  same_told : (property : Property) (width name at : ℕ) (gate : Gate) → SameAt (gate_nets gate) → step_of property f (Some (record { width = width; name_at = name; gate = renamed d p at gate })) ≡ step_of property g (Some (record { width = width; name_at = name; gate = gate }))
  same_told Static width name at (Word code) h = refl
  same_told Static width name at (Reg id) h = refl
  same_told Static width name at (Read memory addr) h = refl
  same_told Static width name at (Const c) h = refl
  same_told Static width name at (Wire a) h = same_names (a ∷ []) h
  same_told Static width name at (Un op a) h = same_names (a ∷ []) h
  same_told Static width name at (Bin op a b) h = same_names (a ∷ b ∷ []) h
  same_told Static width name at (Slice of hi lo) h = same_names (of ∷ []) h
  same_told Static width name at (Cat a b) h = same_names (a ∷ b ∷ []) h
  same_told Static width name at (Zext a) h = same_names (a ∷ []) h
  same_told Static width name at (Sext a) h = same_names (a ∷ []) h
  same_told Static width name at (Case sel rows rest) h =
      ap (λ (ms : List ℕ). all_nets f (p sel ∷ ms)) (row_names rows rest) ∙ same_names (sel ∷ row_nets rows rest) h
  same_told Static width name at (Bus drivers) h = ap (all_nets f) (driver_names drivers) ∙ same_names (driver_nets drivers) h
  same_told Control width name at (Word code) h = refl
  same_told Control width name at (Reg id) h = refl
  same_told Control width name at (Read memory addr) h = refl
  same_told Control width name at (Const c) h = refl
  same_told Control width name at (Wire a) h = same_names (a ∷ []) h
  same_told Control width name at (Un op a) h =
      ap (λ b. b && all_nets f (p a ∷ [])) (one_control op (p a) a)
      ∙ ap (λ b. is_control_gate (Un op a) && b) (same_names (a ∷ []) h)
  same_told Control width name at (Bin op a b) h =
      ap (λ c. c && all_nets f (p a ∷ p b ∷ [])) (pair_control op (p a) (p b) ∙ sym (pair_control op a b))
      ∙ ap (λ c. is_control_gate (Bin op a b) && c) (same_names (a ∷ b ∷ []) h)
  same_told Control width name at (Slice of hi lo) h = same_names (of ∷ []) h
  same_told Control width name at (Cat a b) h = same_names (a ∷ b ∷ []) h
  same_told Control width name at (Zext a) h = same_names (a ∷ []) h
  same_told Control width name at (Sext a) h = same_names (a ∷ []) h
  same_told Control width name at (Case sel rows rest) h =
      ap (λ (ms : List ℕ). all_nets f (p sel ∷ ms)) (row_names rows rest) ∙ same_names (sel ∷ row_nets rows rest) h
  same_told Control width name at (Bus drivers) h = refl

both_true : (a b : Bool) → a ≡ true → b ≡ true → (a && (b && true)) ≡ true
both_true a b e f = rw (e, f) refl

-- ---- enables of ports

pub port_when : (test : ℕ → Bool) (space : Space) (storages : List Storage) → AllByRecursion (λ (storage : Storage). AllPass test (storage_enables storage)) storages → count_in space storages ≡ 1 → AllPass test (option_to_list (port_of (array_in space storages)).when)
port_when test space [] h e = absurd (omega (arith, e))
port_when test InMemory (Register name width input when ∷ storages) h e = port_when test InMemory storages h.1 (omega (arith, e))
port_when test InMemory (Memory cells ∷ storages) h e = h.0
port_when test InMemory (File cells ∷ storages) h e = port_when test InMemory storages h.1 (omega (arith, e))
port_when test InFile (Register name width input when ∷ storages) h e = port_when test InFile storages h.1 (omega (arith, e))
port_when test InFile (Memory cells ∷ storages) h e = port_when test InFile storages h.1 (omega (arith, e))
port_when test InFile (File cells ∷ storages) h e = h.0

module _ (d : Netlist) (order : List ℕ) (k : KeepsBanks d order) (places : List ℕ) (vo : IsOrder (view_of d) places) where
  abbrev q : ℕ → ℕ
  q n = net_number d (numbering_of d) n

  -- ---- flags

  same_below : (property : Property) (b n : ℕ) → position_of order n < b → n < length d.nets → has property (view_of d) (q n) ≡ has property d n
  same_below property zero n h lt = absurd (omega arith)
  same_below property (suc b) n h lt =
      elim (slice_get_cases d.nets n).1 as (λ _. has property (view_of d) (q n) ≡ has property d n) [
        | inr c ↦ absurd (omega (arith, c.0))
        | inl c ↦
            let names : AllByRecursion (λ m. position_of order m < position_of order n) (gate_nets c.0.gate) =
            subst (λ (x : Option Net). AllByRecursion (λ m. position_of order m < position_of order n) (nets_of x)) c.2 (k.rules.ordered.falls n) in
            let agree : AllByRecursion (λ m. has property (view_of d) (q m) ≡ has property d m) (gate_nets c.0.gate) =
            all_weaker (λ m. position_of order m < position_of order n) (λ m. has property (view_of d) (q m) ≡ has property d m)
            (λ m r. same_below property b m (omega (arith, h, r)) (before_within d order k.rules.ordered n m lt r)) (gate_nets c.0.gate) names in
            flag_is property (view_of d) places vo (q n) (number_within d n lt)
            ∙ ap (step_of property (has property (view_of d))) (net_there d n c.0 c.2)
            ∙ same_told d (has property (view_of d)) (has property d) property c.0.width c.0.name_at ((numbering_of d).first n) c.0.gate agree
            ∙ sym (ap (step_of property (has property d)) c.2)
            ∙ sym (flag_is property d order k.rules.ordered n lt)
      ]

  same_flag : (property : Property) (n : ℕ) → n < length d.nets → has property (view_of d) (q n) ≡ has property d n
  same_flag property n lt = same_below property (suc (position_of order n)) n (omega arith) lt

  same_plain : (n : ℕ) → n < length d.nets → is_plain (view_of d) (q n) ≡ is_plain d n
  same_plain n lt =
      ap (λ b. not b || is_control (view_of d) (q n)) (same_flag Static n lt)
      ∙ ap (λ b. not (is_static d n) || b) (same_flag Control n lt)

  same_selector : (n : ℕ) → n < length d.nets → is_selector (view_of d) (q n) ≡ is_selector d n
  same_selector n lt =
      ap (λ b. b || (width_at (view_of d) (q n) == 1)) (same_flag Static n lt)
      ∙ ap (λ w. is_static d n || (w == 1)) (view_width d n lt)

  -- the flag of a net that stands in the view
  flag_there : (property : Property) (n : ℕ) (net : Net) → slice_get (view_of d).nets n ≡ Some net → has property (view_of d) n ≡ step_of property (has property (view_of d)) (Some net)
  flag_there property n net e =
      flag_is property (view_of d) places vo n (slice_get_within (view_of d).nets n net e)
      ∙ ap (step_of property (has property (view_of d))) e

  -- ---- the enables of the writes

  beside : IsBeside d
  beside = beside_of d (banks_of d order k)

  storages_pass : AllByRecursion (λ (storage : Storage). AllPass (is_static d) (storage_enables storage)) d.storages
  storages_pass =
      gather_all (λ n. is_static d n ≡ true) storage_enables d.storages
      (all_parts (λ n. is_static d n ≡ true) (write_enables d) (bus_enables d) k.rules.enables).0

  storages_plain : AllByRecursion (λ (storage : Storage). AllPass (is_plain d) (storage_enables storage)) d.storages
  storages_plain =
      gather_all (λ n. is_plain d n ≡ true) storage_enables d.storages
      (all_parts (λ n. is_plain d n ≡ true) (write_enables d) (bus_enables d)
      (all_parts (λ n. is_plain d n ≡ true) (write_enables d ++ bus_enables d) (selectors d) k.rules.control).0).0

  control_of : (n : ℕ) → is_static d n ≡ true → is_plain d n ≡ true → is_control d n ≡ true
  control_of n s c = sym (ap (λ b. not b || is_control d n) s) ∙ c

  both_flags : (property : Property) (when : Option ℕ) → AllPass (is_static d) (option_to_list when) → AllPass (is_plain d) (option_to_list when) → AllPass (has property d) (option_to_list when)
  both_flags Static when s c = s
  both_flags Control None s c = tt
  both_flags Control (Some when) s c = (control_of when s.0 c.0, tt)

  enable_flag : (property : Property) (name at : ℕ) (when : Option ℕ) → WhenFits d when → AllPass (is_static d) (option_to_list when) → AllPass (is_plain d) (option_to_list when) → Holds (view_of d).nets at (enable_nets name when) → has property (view_of d) (enable_number q at when) ≡ true
  enable_flag property name at (Some when) f s c there = same_flag property when f.0 ∙ (both_flags property (Some when) s c).0
  enable_flag Static name at None f s c there = flag_there Static at _ there.0
  enable_flag Control name at None f s c there = flag_there Control at _ there.0

  memory_flag : (property : Property) → has property (view_of d) (memory_enable d (numbering_of d)) ≡ true
  memory_flag property =
      enable_flag property (memory_port d).name_at ((numbering_of d).memory + 1) (memory_port d).when
      (memory_fits d beside k.rules.formed.storages).when
      (port_when (is_static d) InMemory d.storages storages_pass beside.memories)
      (port_when (is_plain d) InMemory d.storages storages_plain beside.memories) (memory_enable_there d)

  bank_flag : (property : Property) → has property (view_of d) (bank_enable d (numbering_of d)) ≡ true
  bank_flag property =
      enable_flag property (memory_port d).name_at ((numbering_of d).memory + 1 + enable_count (memory_port d).when) (bank_port d).when
      (bank_fits d beside k.rules.formed.storages).when
      (port_when (is_static d) InFile d.storages storages_pass beside.lone)
      (port_when (is_plain d) InFile d.storages storages_plain beside.lone) (bank_enable_there d)

  or_flag : (property : Property) → has property (view_of d) (join_number d (numbering_of d) + 2) ≡ true
  or_flag property =
      let third : suc (suc (join_number d (numbering_of d))) ≡ join_number d (numbering_of d) + 2 = omega arith in
      ap (has property (view_of d)) (sym third)
      ∙ flag_there property (suc (suc (join_number d (numbering_of d)))) _ (join_there d).1.1.0 ∙ by property
    where
      by : (property : Property) → step_of property (has property (view_of d)) (Some (record { width = 1; name_at = (memory_port d).name_at; gate = Bin Or (memory_enable d (numbering_of d)) (bank_enable d (numbering_of d)) })) ≡ true
      by Static = both_true _ _ (memory_flag Static) (bank_flag Static)
      by Control = both_true _ _ (memory_flag Control) (bank_flag Control)

  plain_of : (n : ℕ) → is_control (view_of d) n ≡ true → is_plain (view_of d) n ≡ true
  plain_of n c = by (not (is_static (view_of d) n))
    where
      by : (b : Bool) → (b || is_control (view_of d) n) ≡ true
      by true = refl
      by false = c

  -- ---- what passes in the netlist passes in the view

  module _ (test own : ℕ → Bool) (same : (n : ℕ) → n < length d.nets → test (q n) ≡ own n) where
    when_passes : (when : Option ℕ) → WhenFits d when → AllPass own (option_to_list when) → AllPass test (option_to_list (option_map q when))
    when_passes None f h = tt
    when_passes (Some when) f h = (same when f.0 ∙ h.0, tt)

    writes_pass : test (join_number d (numbering_of d) + 2) ≡ true → (storages : List Storage) → count_in InFile storages ≡ 0 → AllByRecursion (StorageKeeps d) storages → AllByRecursion (λ (storage : Storage). AllPass own (storage_enables storage)) storages → AllByRecursion (λ (storage : Storage). AllPass test (storage_enables storage)) (map (joined d (numbering_of d)) storages)
    writes_pass on [] e f h = tt
    writes_pass on (Register name width input when ∷ storages) e f h =
        (when_passes when f.0.1.1 h.0, writes_pass on storages (omega (arith, e)) f.1 h.1)
    writes_pass on (Memory cells ∷ storages) e f h = ((on, tt), writes_pass on storages (omega (arith, e)) f.1 h.1)
    writes_pass on (File cells ∷ storages) e f h = absurd (omega (arith, e))

    drivers_pass : (width : ℕ) (drivers : List (ℕ × ℕ)) → DriversFit d width drivers → AllPass own (map (λ (driver : ℕ × ℕ). driver.1) drivers) → AllPass test (map (λ (driver : ℕ × ℕ). driver.1) (renamed_drivers q drivers))
    drivers_pass width [] f h = tt
    drivers_pass width (driver ∷ drivers) f h = (same driver.1 f.1.0 ∙ h.0, drivers_pass width drivers f.2 h.1)

    gate_enables_pass : (at width : ℕ) (gate : Gate) → GateKeeps d width gate → AllPass own (gate_enables gate) → AllPass test (gate_enables (renamed d q at gate))
    gate_enables_pass at width (Bus drivers) f h = drivers_pass width drivers f h
    gate_enables_pass at width (Word code) f h = tt
    gate_enables_pass at width (Reg id) f h = tt
    gate_enables_pass at width (Read memory addr) f h = tt
    gate_enables_pass at width (Const c) f h = tt
    gate_enables_pass at width (Wire a) f h = tt
    gate_enables_pass at width (Un op a) f h = tt
    gate_enables_pass at width (Bin op a b) f h = tt
    gate_enables_pass at width (Slice of hi lo) f h = tt
    gate_enables_pass at width (Cat a b) f h = tt
    gate_enables_pass at width (Zext a) f h = tt
    gate_enables_pass at width (Sext a) f h = tt
    gate_enables_pass at width (Case sel rows rest) f h = tt

    gate_selectors_pass : (at width : ℕ) (gate : Gate) → GateKeeps d width gate → AllPass own (gate_selectors gate) → AllPass test (gate_selectors (renamed d q at gate))
    gate_selectors_pass at width (Case sel rows rest) f h = (same sel f.0.0 ∙ h.0, tt)
    gate_selectors_pass at width (Bus drivers) f h = tt
    gate_selectors_pass at width (Word code) f h = tt
    gate_selectors_pass at width (Reg id) f h = tt
    gate_selectors_pass at width (Read memory addr) f h = tt
    gate_selectors_pass at width (Const c) f h = tt
    gate_selectors_pass at width (Wire a) f h = tt
    gate_selectors_pass at width (Un op a) f h = tt
    gate_selectors_pass at width (Bin op a b) f h = tt
    gate_selectors_pass at width (Slice of hi lo) f h = tt
    gate_selectors_pass at width (Cat a b) f h = tt
    gate_selectors_pass at width (Zext a) f h = tt
    gate_selectors_pass at width (Sext a) f h = tt

    kept_at : (n : ℕ) (net : Net) → slice_get d.nets n ≡ Some net → NetKeeps d (Some net)
    kept_at n net e = subst (λ (o : Option Net). NetKeeps d o) e (k.rules.formed.nets n)

    -- the enables of buses, where those of the joined writes pass
    pub buses_pass : test (memory_enable d (numbering_of d)) ≡ true → test (bank_enable d (numbering_of d)) ≡ true → AllPass own (bus_enables d) → AllPass test (bus_enables (view_of d))
    buses_pass memory bank h =
        all_gather (λ n. test n ≡ true) (λ (net : Net). gate_enables net.gate) (view_of d).nets
        (all_view d (λ (net : Net). AllPass test (gate_enables net.gate)) access enable
        ((memory, (bank, tt)), ((memory, (bank, tt)), (tt, tt)))
        (λ n net e. gate_enables_pass ((numbering_of d).first n) net.width net.gate (kept_at n net e).1
        (all_at (λ (x : Net). AllPass own (gate_enables x.gate)) d.nets n net
        (gather_all (λ n. own n ≡ true) (λ (x : Net). gate_enables x.gate) d.nets h) e)))
      where
        access : (space : Space) (name at addr : ℕ) → AllByRecursion (λ (net : Net). AllPass test (gate_enables net.gate)) (access_nets space d name at addr)
        access InMemory name at addr = (tt, tt)
        access InFile name at addr = (tt, (tt, (tt, tt)))

        enable : (name : ℕ) (when : Option ℕ) → AllByRecursion (λ (net : Net). AllPass test (gate_enables net.gate)) (enable_nets name when)
        enable name None = (tt, tt)
        enable name (Some when) = tt

    pub selectors_pass : AllPass own (selectors d) → AllPass test (selectors (view_of d))
    selectors_pass h =
        all_gather (λ n. test n ≡ true) (λ (net : Net). gate_selectors net.gate) (view_of d).nets
        (all_view d (λ (net : Net). AllPass test (gate_selectors net.gate)) access enable (tt, (tt, (tt, tt)))
        (λ n net e. gate_selectors_pass ((numbering_of d).first n) net.width net.gate (kept_at n net e).1
        (all_at (λ (x : Net). AllPass own (gate_selectors x.gate)) d.nets n net
        (gather_all (λ n. own n ≡ true) (λ (x : Net). gate_selectors x.gate) d.nets h) e)))
      where
        access : (space : Space) (name at addr : ℕ) → AllByRecursion (λ (net : Net). AllPass test (gate_selectors net.gate)) (access_nets space d name at addr)
        access InMemory name at addr = (tt, tt)
        access InFile name at addr = (tt, (tt, (tt, tt)))

        enable : (name : ℕ) (when : Option ℕ) → AllByRecursion (λ (net : Net). AllPass test (gate_selectors net.gate)) (enable_nets name when)
        enable name None = (tt, tt)
        enable name (Some when) = tt

    -- all enables
    pub enables_pass : test (memory_enable d (numbering_of d)) ≡ true → test (bank_enable d (numbering_of d)) ≡ true → test (join_number d (numbering_of d) + 2) ≡ true → AllPass own (write_enables d ++ bus_enables d) → AllPass test (write_enables (view_of d) ++ bus_enables (view_of d))
    enables_pass memory bank on h =
        let parts = all_parts (λ n. own n ≡ true) (write_enables d) (bus_enables d) h in
        let own_writes = gather_all (λ n. own n ≡ true) storage_enables d.storages parts.0 in
        all_append (λ n. test n ≡ true) (write_enables (view_of d)) (bus_enables (view_of d))
        (all_gather (λ n. test n ≡ true) storage_enables (view_of d).storages
        (writes_pass on (others d) beside.none (all_removed (StorageKeeps d) d.storages (bank_place d) k.rules.formed.storages)
        (all_removed (λ (storage : Storage). AllPass own (storage_enables storage)) d.storages (bank_place d) own_writes)))
        (buses_pass memory bank parts.1)

  -- ---- N7 to N9

  pub view_enables : HasStaticEnables (view_of d)
  view_enables =
      enables_pass (is_static (view_of d)) (is_static d) (same_flag Static) (memory_flag Static) (bank_flag Static) (or_flag Static) k.rules.enables

  pub view_control : HasPlainControl (view_of d)
  view_control =
      let parts = all_parts (λ n. is_plain d n ≡ true) (write_enables d ++ bus_enables d) (selectors d) k.rules.control in
      all_append (λ n. is_plain (view_of d) n ≡ true) (write_enables (view_of d) ++ bus_enables (view_of d)) (selectors (view_of d))
      (enables_pass (is_plain (view_of d)) (is_plain d) same_plain
      (plain_of (memory_enable d (numbering_of d)) (memory_flag Control)) (plain_of (bank_enable d (numbering_of d)) (bank_flag Control))
      (plain_of (join_number d (numbering_of d) + 2) (or_flag Control)) parts.0)
      (selectors_pass (is_plain (view_of d)) (is_plain d) same_plain parts.1)

  pub view_selectors : HasNarrowSelectors (view_of d)
  view_selectors = selectors_pass (is_selector (view_of d)) (is_selector d) same_selector k.rules.selectors

-- ---- N14: the view has no file

module _ (d : Netlist) (h : IsBeside d) (test : ℕ → Bool) where
  no_written : (storages : List Storage) → count_in InFile storages ≡ 0 → AllByRecursion (λ (storage : Storage). AllPass test (storage_file_addrs storage)) (map (joined d (numbering_of d)) storages)
  no_written [] e = tt
  no_written (Register name width input when ∷ storages) e = (tt, no_written storages (omega (arith, e)))
  no_written (Memory cells ∷ storages) e = (tt, no_written storages (omega (arith, e)))
  no_written (File cells ∷ storages) e = absurd (omega (arith, e))

  access_none : (space : Space) (name at addr : ℕ) → AllByRecursion (λ (net : Net). AllPass test (gate_file_addrs (view_of d) net.gate)) (access_nets space d name at addr)
  access_none InMemory name at addr = (tt, tt)
  access_none InFile name at addr = (tt, (tt, (tt, tt)))

  enable_none : (name : ℕ) (when : Option ℕ) → AllByRecursion (λ (net : Net). AllPass test (gate_file_addrs (view_of d) net.gate)) (enable_nets name when)
  enable_none name None = (tt, tt)
  enable_none name (Some when) = tt

  gate_none : (at : ℕ) (gate : Gate) → AllPass test (gate_file_addrs (view_of d) (renamed d (net_number d (numbering_of d)) at gate))
  gate_none at (Read memory addr) = subst (λ (space : Space). AllPass test (addr_in_file space (access_end (space_at d memory) at))) (sym (view_space d)) tt
  gate_none at (Word code) = tt
  gate_none at (Reg id) = tt
  gate_none at (Const c) = tt
  gate_none at (Wire a) = tt
  gate_none at (Un op a) = tt
  gate_none at (Bin op a b) = tt
  gate_none at (Slice of hi lo) = tt
  gate_none at (Cat a b) = tt
  gate_none at (Zext a) = tt
  gate_none at (Sext a) = tt
  gate_none at (Case sel rows rest) = tt
  gate_none at (Bus drivers) = tt

  pub no_addrs : AllPass test (gather storage_file_addrs (view_of d).storages ++ gather (λ (net : Net). gate_file_addrs (view_of d) net.gate) (view_of d).nets)
  no_addrs =
      all_append (λ n. test n ≡ true) (gather storage_file_addrs (view_of d).storages) (gather (λ (net : Net). gate_file_addrs (view_of d) net.gate) (view_of d).nets)
      (all_gather (λ n. test n ≡ true) storage_file_addrs (view_of d).storages (no_written (others d) h.none))
      (all_gather (λ n. test n ≡ true) (λ (net : Net). gate_file_addrs (view_of d) net.gate) (view_of d).nets
      (all_view d (λ (net : Net). AllPass test (gate_file_addrs (view_of d) net.gate)) access_none enable_none (tt, (tt, (tt, tt)))
      (λ n net e. gate_none ((numbering_of d).first n) net.gate)))

pub view_addresses : (d : Netlist) → IsBeside d → HasStaticFileAddrs (view_of d)
view_addresses d h = no_addrs d h (is_static (view_of d))
