-- The view keeps N1 to N4 and N11.
use Rattle.std.proofs.Common.{◌≡◌, ℕ, zero, suc, ◌+◌, ◌-◌, ◌*◌, ◌^◌, ◌<◌, ◌≤◌, IsTrue, Bool, true, false, nat_eq, List, [], ◌∷◌, ◌++◌, length, map, option_map, slice_get, Option, Some, None, refl, ap, sym, ◌∙◌, subst, arith}
use Rattle.std.specs.List.{AllByRecursion, IsDistinct, flat_map, list_any, remove}
use Rattle.std.specs.Cmp.Lexicographic.{pointwise}
use Rattle.std.proofs.lemmas.List.{length-map}
use Rattle.std.proofs.lemmas.Nat.{pow_pos}
use Rattle.std.proofs.lemmas.Option.{slice_get-map}
use Rattle.std.proofs.lemmas.Grind.{pow_more}
use Rattle.rec_bits.proofs.Lists.{all_append, all_at, all_by_place}
use Rattle.rec_bits.specs.Operators.{IsWidth, result_width}
use Rattle.rec_bits.specs.declared.operator.Op2.{Op2}
use Rattle.net_model.specs.declared.hardware.Cells.{Cells}
use Rattle.net_model.specs.declared.hardware.Code.{Code}
use Rattle.net_model.specs.declared.hardware.Net.{Net}
use Rattle.net_model.specs.declared.hardware.Netlist.{Netlist}
use Rattle.net_model.specs.declared.hardware.Gate.{Gate}
use Rattle.net_model.specs.declared.hardware.Gate.TheVariants.{Word, Reg, Read, Const, Wire, Un, Bin, Slice, Cat, Zext, Sext, Case, Bus}
use Rattle.net_model.specs.declared.hardware.Space.{Space}
use Rattle.net_model.specs.declared.hardware.Space.TheVariants.{Memory as InMemory, File as InFile}
use Rattle.net_model.specs.declared.hardware.Storage.{Storage}
use Rattle.net_model.specs.declared.hardware.Storage.TheVariants.{Register, Memory, File}
use Rattle.net_model.specs.Nets.{array_in, code_bits, memory_id, space_at, storage_name, width_at}
use Rattle.net_model.specs.Widths.{DriversFit, HasWidth, RestFits, RowsFit, WhenFits}
use Rattle.net_model.specs.CheckedRules.{CodeKeeps, GateKeeps, IsWellFormed, IsWhole, NamesDiffer, NetKeeps, ReadKeeps, StorageKeeps, count_in, row_numbers, storage_names}
use Rattle.bank_view.specs.declared.slot.Slot.{Slot}
use Rattle.bank_view.specs.declared.slot.Slot.TheVariants.{Kept, MemoryWrite, BankWrite}
use Rattle.bank_view.specs.Banks.{addr_bits, bank_place, bank_port, memory_port, others, port_of}
use Rattle.bank_view.specs.Keeping.{HasBanks}
use Rattle.bank_view.specs.Inner.Banked.{IsBeside}
use Rattle.bank_view.specs.Views.{Numbering, access_end, access_nets, added_nets, bank_enable, enable_count, enable_nets, enable_number, join_nets, join_number, joined, memory_enable, net_number, nets_for, numbering_of, renamed, renamed_code, renamed_drivers, renamed_rows, slot_nets, slots_of, view_of}
use Rattle.bank_view.proofs.Arrays.{other_array, other_memory, others_no_file, read_addr, read_width, there_in}
use Rattle.bank_view.proofs.Beside.{beside_of}
use Rattle.bank_view.proofs.Clocks.{PortFits, bank_fits, memory_fits}
use Rattle.bank_view.proofs.Kept.{register_there, register_wide, view_limits}
use Rattle.bank_view.proofs.Lists.{Holds, all_flat, all_removed}
use Rattle.bank_view.proofs.Places.{added_there, bank_enable_there, bank_there, join_there, memory_access_there, memory_enable_there, number_wide, standing, view_width}
use Rattle.bank_view.proofs.Starts.{code_same}

-- ---- N1: the names are those of the netlist, but the bank's

same_name : (d : Netlist) (m : Numbering) (storage : Storage) → storage_name (joined d m storage) ≡ storage_name storage
same_name d m (Register name width input when) = refl
same_name d m (Memory cells) = refl
same_name d m (File cells) = refl

joined_names : (d : Netlist) (m : Numbering) (storages : List Storage) → map storage_name (map (joined d m) storages) ≡ map storage_name storages
joined_names d m [] = refl
joined_names d m (storage ∷ storages) =
    ap (λ (name : List ℕ). name ∷ map storage_name (map (joined d m) storages)) (same_name d m storage)
    ∙ ap (λ (names : List (List ℕ)). storage_name storage ∷ names) (joined_names d m storages)

other_names : (storages : List Storage) (at : ℕ) → map storage_name (remove storages at) ≡ remove (map storage_name storages) at
other_names [] zero = refl
other_names [] (suc at) = refl
other_names (storage ∷ storages) zero = refl
other_names (storage ∷ storages) (suc at) = ap (λ (names : List (List ℕ)). storage_name storage ∷ names) (other_names storages at)

code_names : (d : Netlist) (codes : List Code) → map (λ (code : Code). code.name) (map (renamed_code d) codes) ≡ map (λ (code : Code). code.name) codes
code_names d [] = refl
code_names d (code ∷ codes) = ap (λ (names : List (List ℕ)). code.name ∷ names) (code_names d codes)

pub view_names : (d : Netlist) → storage_names (view_of d) ≡ remove (map storage_name d.storages) (bank_place d) ++ map (λ (code : Code). code.name) d.codes
view_names d =
    ap (λ (names : List (List ℕ)). names ++ map (λ (code : Code). code.name) (view_of d).codes)
    (joined_names d (numbering_of d) (others d) ∙ other_names d.storages (bank_place d))
    ∙ ap (λ (names : List (List ℕ)). remove (map storage_name d.storages) (bank_place d) ++ names) (code_names d d.codes)

module _ {X : Type 0} where
  all_without : (P : X → Type 0) (xs ys : List X) (at : ℕ) → AllByRecursion P (xs ++ ys) → AllByRecursion P (remove xs at ++ ys)
  all_without P [] ys zero h = h
  all_without P [] ys (suc at) h = h
  all_without P (x ∷ xs) ys zero h = h.1
  all_without P (x ∷ xs) ys (suc at) h = (h.0, all_without P xs ys at h.1)

  distinct_without : (same : X → X → Bool) (xs ys : List X) (at : ℕ) → IsDistinct same (xs ++ ys) → IsDistinct same (remove xs at ++ ys)
  unfolding IsDistinct
  distinct_without same [] ys zero h = h
  distinct_without same [] ys (suc at) h = h
  distinct_without same (x ∷ xs) ys zero h = h.1
  distinct_without same (x ∷ xs) ys (suc at) h =
      (all_without (λ y. same x y ≡ false) xs ys at h.0, distinct_without same xs ys at h.1)

view_names_differ : (d : Netlist) → NamesDiffer d → NamesDiffer (view_of d)
view_names_differ d h =
    subst (λ (names : List (List ℕ)). IsDistinct (pointwise nat_eq) names) (sym (view_names d))
    (distinct_without (pointwise nat_eq) (map storage_name d.storages) (map (λ (code : Code). code.name) d.codes) (bank_place d) h)

-- ---- N2 to N4: nets

same_rows : (p : ℕ → ℕ) (rows : List (ℕ × ℕ)) → row_numbers (renamed_rows p rows) ≡ row_numbers rows
same_rows p [] = refl
same_rows p (row ∷ rows) = ap (λ (numbers : List ℕ). row.0 ∷ numbers) (same_rows p rows)

-- the one memory of the view, that a read there is of
memory_of : (d : Netlist) (storages : List Storage) (cells : Cells) → array_in InMemory storages ≡ Some cells → slice_get (map (joined d (numbering_of d)) storages) (memory_id storages) ≡ Some (joined d (numbering_of d) (Memory cells))
memory_of d [] cells e = absurd (cc)
memory_of d (Register name width input when ∷ storages) cells e = memory_of d storages cells e
memory_of d (Memory own ∷ storages) cells e = let same : own ≡ cells = cc in ap (λ (c : Cells). Some (joined d (numbering_of d) (Memory c))) same
memory_of d (File own ∷ storages) cells e = memory_of d storages cells e

-- the cells of a space have a width
cells_wide : (netlist : Netlist) (space : Space) (storages : List Storage) → AllByRecursion (StorageKeeps netlist) storages → count_in space storages ≡ 1 → IsWidth (port_of (array_in space storages)).width
cells_wide netlist space [] k e = absurd (omega (arith, e))
cells_wide netlist InMemory (Register name width input when ∷ storages) k e = cells_wide netlist InMemory storages k.1 (omega (arith, e))
cells_wide netlist InMemory (Memory cells ∷ storages) k e = k.0.0
cells_wide netlist InMemory (File cells ∷ storages) k e = cells_wide netlist InMemory storages k.1 (omega (arith, e))
cells_wide netlist InFile (Register name width input when ∷ storages) k e = cells_wide netlist InFile storages k.1 (omega (arith, e))
cells_wide netlist InFile (Memory cells ∷ storages) k e = cells_wide netlist InFile storages k.1 (omega (arith, e))
cells_wide netlist InFile (File cells ∷ storages) k e = k.0.0

module _ (d : Netlist) (h : HasBanks d) where
  beside : IsBeside d
  beside = beside_of d h

  abbrev p : ℕ → ℕ
  p n = net_number d (numbering_of d) n

  abbrev Keeps : Net → Type 0
  Keeps net = NetKeeps (view_of d) (Some net)

  wide : IsWidth (addr_bits d + 1)
  wide = (omega arith, omega (arith, beside.few))

  -- ---- what is added for an access

  access_wide : (space : Space) (name at addr : ℕ) → Holds (view_of d).nets at (access_nets space d name at addr) → HasWidth (view_of d) (access_end space at) (addr_bits d + 1)
  access_wide InMemory name at addr there = standing d at _ there.0
  access_wide InFile name at addr there =
      let third : suc (suc at) ≡ at + 2 = omega arith in
      subst (λ n. HasWidth (view_of d) n (addr_bits d + 1)) third (standing d (suc (suc at)) _ there.1.1.0)

  access_keeps : (space : Space) (name at addr : ℕ) → Holds (view_of d).nets at (access_nets space d name at addr) → HasWidth (view_of d) addr (addr_bits d) → AllByRecursion Keeps (access_nets space d name at addr)
  access_keeps InMemory name at addr there a = ((wide, (a.0, omega (arith, a.1))), tt)
  access_keeps InFile name at addr there a =
      let one : HasWidth (view_of d) at (addr_bits d + 1) = standing d at _ there.0 in
      let second : suc at ≡ at + 1 = omega arith in
      let two : HasWidth (view_of d) (at + 1) (addr_bits d + 1) = subst (λ n. HasWidth (view_of d) n (addr_bits d + 1)) second (standing d (suc at) _ there.1.0) in
      let fits : 2 ^ addr_bits d < 2 ^ (addr_bits d + 1) = omega (arith, pow_more 2 (addr_bits d), pow_pos (addr_bits d)) in
      ((wide, (a.0, omega (arith, a.1))), ((wide, fits), ((wide, (one.0, (two.0, two.1 ∙ sym one.1), one.1)), tt)))

  -- ---- the nets of the netlist

  rows_fit : (key width : ℕ) (rows : List (ℕ × ℕ)) → RowsFit d key width rows → RowsFit (view_of d) key width (renamed_rows p rows)
  rows_fit key width [] f = tt
  rows_fit key width (row ∷ rows) f = (f.0, number_wide d row.1 width f.1, rows_fit key width rows f.2)

  rest_fits : (width : ℕ) (rest : Option ℕ) → RestFits d width rest → RestFits (view_of d) width (option_map p rest)
  rest_fits width None f = tt
  rest_fits width (Some rest) f = number_wide d rest width f

  drivers_fit : (width : ℕ) (drivers : List (ℕ × ℕ)) → DriversFit d width drivers → DriversFit (view_of d) width (renamed_drivers p drivers)
  drivers_fit width [] f = tt
  drivers_fit width (driver ∷ drivers) f =
      (number_wide d driver.0 width f.0, number_wide d driver.1 1 f.1, drivers_fit width drivers f.2)

  still_whole : (bits : ℕ) (rows : List (ℕ × ℕ)) (rest : Option ℕ) → IsWhole bits rows rest → IsWhole bits (renamed_rows p rows) (option_map p rest)
  still_whole bits rows None f = λ k lt. subst (λ (numbers : List ℕ). IsTrue (list_any (nat_eq k) numbers)) (sym (same_rows p rows)) (f k lt)
  still_whole bits rows (Some rest) f = tt

  case_keeps : (width sel : ℕ) (rows : List (ℕ × ℕ)) (rest : Option ℕ) → GateKeeps d width (Case sel rows rest) → GateKeeps (view_of d) width (Case (p sel) (renamed_rows p rows) (option_map p rest))
  case_keeps width sel rows rest k =
      let s = number_wide d sel (width_at d sel) (k.0.0, refl) in (
        (
          s.0,
          subst (λ n. RowsFit (view_of d) n width (renamed_rows p rows)) (sym s.1) (rows_fit (width_at d sel) width rows k.0.1),
          rest_fits width rest k.0.2,
        ),
        subst (λ (numbers : List ℕ). IsDistinct nat_eq numbers) (sym (same_rows p rows)) k.1,
        subst (λ n. IsWhole n (renamed_rows p rows) (option_map p rest)) (sym s.1) (still_whole (width_at d sel) rows rest k.2),
      )

  bin_keeps : (op : Op2) (width a b : ℕ) → GateKeeps d width (Bin op a b) → GateKeeps (view_of d) width (Bin op (p a) (p b))
  bin_keeps op width a b k =
      let x = number_wide d a (width_at d a) (k.0, refl) in
      let y = number_wide d b (width_at d a) k.1 in
      (x.0, (y.0, y.1 ∙ sym x.1), ap (result_width op) x.1 ∙ k.2)

  read_keeps : (name at width memory addr : ℕ) → Holds (view_of d).nets at (access_nets (space_at d memory) d name at (p addr)) → ReadKeeps d width addr (slice_get d.storages memory) → ReadKeeps (view_of d) width (access_end (space_at d memory) at) (slice_get (view_of d).storages (memory_id (others d)))
  read_keeps name at width memory addr there k =
      let t = there_in InMemory d.storages beside.memories in
      let is : slice_get (view_of d).storages (memory_id (others d)) ≡ Some (joined d (numbering_of d) (Memory t.0)) = memory_of d (others d) t.0 (other_memory d.storages ∙ t.1) in
      let same : t.0.width ≡ width = sym (ap (λ (o : Option Cells). (port_of o).width) t.1) ∙ read_width d beside width addr memory k in
      subst (λ (o : Option Storage). ReadKeeps (view_of d) width (access_end (space_at d memory) at) o) (sym is)
      (same, access_wide (space_at d memory) name at (p addr) there)

  gate_keeps : (name at width : ℕ) (gate : Gate) → Holds (view_of d).nets at (added_nets d p name at gate) → GateKeeps d width gate → GateKeeps (view_of d) width (renamed d p at gate)
  gate_keeps name at width (Word code) there k =
      (subst (λ n. code < n) (sym (length-map d.codes (renamed_code d))) k.0, code_same d d.codes code ∙ k.1)
  gate_keeps name at width (Reg id) there k = (register_there d id k.0, register_wide d id k.0 ∙ k.1)
  gate_keeps name at width (Read memory addr) there k = read_keeps name at width memory addr there k
  gate_keeps name at width (Const c) there k = k
  gate_keeps name at width (Wire a) there k = number_wide d a width k
  gate_keeps name at width (Un op a) there k = number_wide d a width k
  gate_keeps name at width (Bin op a b) there k = bin_keeps op width a b k
  gate_keeps name at width (Slice of hi lo) there k =
      let x = number_wide d of (width_at d of) (k.0, refl) in
      (x.0, k.1, omega (arith, x.1, k.2), k.3)
  gate_keeps name at width (Cat a b) there k =
      let x = number_wide d a (width_at d a) (k.0, refl) in
      let y = number_wide d b (width_at d b) (k.1, refl) in
      (x.0, y.0, omega (arith, x.1, y.1, k.2))
  gate_keeps name at width (Zext a) there k =
      let x = number_wide d a (width_at d a) (k.0, refl) in (x.0, omega (arith, x.1, k.1))
  gate_keeps name at width (Sext a) there k =
      let x = number_wide d a (width_at d a) (k.0, refl) in (x.0, omega (arith, x.1, k.1))
  gate_keeps name at width (Case sel rows rest) there k = case_keeps width sel rows rest k
  gate_keeps name at width (Bus drivers) there k = drivers_fit width drivers k

  -- ---- the writes

  memory_port_fits : PortFits d (memory_port d)
  memory_port_fits = memory_fits d beside h.formed.storages

  bank_port_fits : PortFits d (bank_port d)
  bank_port_fits = bank_fits d beside h.formed.storages

  bank_addr_fits : HasWidth d (bank_port d).addr (addr_bits d)
  bank_addr_fits = (bank_port_fits.addr.0, bank_port_fits.addr.1 ∙ beside.addresses)

  added_keeps : (name at width : ℕ) (gate : Gate) → Holds (view_of d).nets at (added_nets d p name at gate) → GateKeeps d width gate → AllByRecursion Keeps (added_nets d p name at gate)
  added_keeps name at width (Read memory addr) there k =
      access_keeps (space_at d memory) name at (p addr) there (number_wide d addr (addr_bits d) (read_addr d beside width addr memory k))
  added_keeps name at width (Word code) there k = tt
  added_keeps name at width (Reg id) there k = tt
  added_keeps name at width (Const c) there k = tt
  added_keeps name at width (Wire a) there k = tt
  added_keeps name at width (Un op a) there k = tt
  added_keeps name at width (Bin op a b) there k = tt
  added_keeps name at width (Slice of hi lo) there k = tt
  added_keeps name at width (Cat a b) there k = tt
  added_keeps name at width (Zext a) there k = tt
  added_keeps name at width (Sext a) there k = tt
  added_keeps name at width (Case sel rows rest) there k = tt
  added_keeps name at width (Bus drivers) there k = tt

  enable_wide : (name at : ℕ) (when : Option ℕ) → WhenFits d when → Holds (view_of d).nets at (enable_nets name when) → HasWidth (view_of d) (enable_number p at when) 1
  enable_wide name at None f there = standing d at _ there.0
  enable_wide name at (Some when) f there = number_wide d when 1 f

  pub memory_enable_wide : HasWidth (view_of d) (memory_enable d (numbering_of d)) 1
  memory_enable_wide = enable_wide (memory_port d).name_at ((numbering_of d).memory + 1) (memory_port d).when memory_port_fits.when (memory_enable_there d)

  pub bank_enable_wide : HasWidth (view_of d) (bank_enable d (numbering_of d)) 1
  bank_enable_wide = enable_wide (memory_port d).name_at ((numbering_of d).memory + 1 + enable_count (memory_port d).when) (bank_port d).when bank_port_fits.when (bank_enable_there d)

  enable_keeps : (name : ℕ) (when : Option ℕ) → AllByRecursion Keeps (enable_nets name when)
  enable_keeps name None = (((omega arith, omega arith), omega arith), tt)
  enable_keeps name (Some when) = tt

  width_fits : IsWidth (memory_port d).width
  width_fits = cells_wide d InMemory d.storages h.formed.storages beside.memories

  join_keeps : AllByRecursion Keeps (join_nets d (numbering_of d))
  join_keeps =
      let one = memory_enable_wide in
      let other = bank_enable_wide in
      let value = number_wide d (memory_port d).value (memory_port d).width memory_port_fits.value in
      let bank_value = number_wide d (bank_port d).value (memory_port d).width (bank_port_fits.value.0, bank_port_fits.value.1 ∙ beside.width) in
      let addr = access_wide InMemory (memory_port d).name_at (numbering_of d).memory (p (memory_port d).addr) (memory_access_there d) in
      let bank_addr = access_wide InFile (bank_port d).name_at (numbering_of d).bank (p (bank_port d).addr) (bank_there d) in (
        (width_fits, (value, one, (bank_value, other, tt))),
        (
          (wide, (addr, one, (bank_addr, other, tt))),
          (((omega arith, omega arith), (one.0, (other.0, other.1 ∙ sym one.1), one.1)), tt),
        ),
      )

  slot_keeps : (slot : Slot) → AllByRecursion Keeps (slot_nets d (numbering_of d) slot)
  slot_keeps BankWrite =
      access_keeps InFile (bank_port d).name_at (numbering_of d).bank (p (bank_port d).addr) (bank_there d)
      (number_wide d (bank_port d).addr (addr_bits d) bank_addr_fits)
  slot_keeps MemoryWrite =
      all_append Keeps (access_nets InMemory d (memory_port d).name_at (numbering_of d).memory (p (memory_port d).addr))
      (enable_nets (memory_port d).name_at (memory_port d).when ++ (enable_nets (memory_port d).name_at (bank_port d).when ++ join_nets d (numbering_of d)))
      (access_keeps InMemory (memory_port d).name_at (numbering_of d).memory (p (memory_port d).addr) (memory_access_there d)
      (number_wide d (memory_port d).addr (addr_bits d) memory_port_fits.addr))
      (all_append Keeps (enable_nets (memory_port d).name_at (memory_port d).when) (enable_nets (memory_port d).name_at (bank_port d).when ++ join_nets d (numbering_of d))
      (enable_keeps (memory_port d).name_at (memory_port d).when)
      (all_append Keeps (enable_nets (memory_port d).name_at (bank_port d).when) (join_nets d (numbering_of d))
      (enable_keeps (memory_port d).name_at (bank_port d).when) join_keeps))
  slot_keeps (Kept n name) = by (slice_get d.nets n) refl (h.formed.nets n)
    where
      by : (o : Option Net) → slice_get d.nets n ≡ o → NetKeeps d o → AllByRecursion Keeps (nets_for d p ((numbering_of d).first n) o)
      by None e k = tt
      by (Some net) e k =
          all_append Keeps (added_nets d p net.name_at ((numbering_of d).first n) net.gate)
          (record net { gate = renamed d p ((numbering_of d).first n) net.gate } ∷ [])
          (added_keeps net.name_at ((numbering_of d).first n) net.width net.gate (added_there d n net e) k.1)
          ((k.0, gate_keeps net.name_at ((numbering_of d).first n) net.width net.gate (added_there d n net e) k.1), tt)

  nets_keep : (n : ℕ) → NetKeeps (view_of d) (slice_get (view_of d).nets n)
  nets_keep n = by (slice_get (view_of d).nets n) refl
    where
      by : (o : Option Net) → slice_get (view_of d).nets n ≡ o → NetKeeps (view_of d) o
      by None e = tt
      by (Some net) e = all_at Keeps (view_of d).nets n net (all_flat Keeps (slot_nets d (numbering_of d)) slot_keeps (slots_of d)) e

  -- ---- storages and codes

  when_fits : (when : Option ℕ) → WhenFits d when → WhenFits (view_of d) (option_map p when)
  when_fits None f = tt
  when_fits (Some when) f = number_wide d when 1 f

  storage_keeps : (i : ℕ) (storage : Storage) → slice_get (others d) i ≡ Some storage → StorageKeeps d storage → StorageKeeps (view_of d) (joined d (numbering_of d) storage)
  storage_keeps i (Register name width input when) e k = (k.0, (number_wide d input width k.1.0, when_fits when k.1.1))
  storage_keeps i (Memory cells) e k =
      let same : cells.width ≡ (memory_port d).width = sym (ap (λ (o : Option Cells). (port_of o).width) (other_array d beside i cells e)) in
      let value : HasWidth (view_of d) (join_number d (numbering_of d)) (memory_port d).width = standing d (join_number d (numbering_of d)) _ (join_there d).0 in
      let second : suc (join_number d (numbering_of d)) ≡ join_number d (numbering_of d) + 1 = omega arith in
      let third : suc (suc (join_number d (numbering_of d))) ≡ join_number d (numbering_of d) + 2 = omega arith in (
        k.0,
        wide,
        (
          (value.0, value.1 ∙ sym same),
          subst (λ n. HasWidth (view_of d) n (addr_bits d + 1)) second (standing d (suc (join_number d (numbering_of d))) _ (join_there d).1.0),
          subst (λ n. HasWidth (view_of d) n 1) third (standing d (suc (suc (join_number d (numbering_of d)))) _ (join_there d).1.1.0),
        ),
      )
  storage_keeps i (File cells) e k = absurd (others_no_file d beside i cells e)

  storages_keep : AllByRecursion (StorageKeeps (view_of d)) (view_of d).storages
  storages_keep = all_by_place (StorageKeeps (view_of d)) (view_of d).storages (λ i x e. by i x e (slice_get (others d) i) refl)
    where
      by : (i : ℕ) (x : Storage) → slice_get (view_of d).storages i ≡ Some x → (o : Option Storage) → slice_get (others d) i ≡ o → StorageKeeps (view_of d) x
      by i x e None f =
          let z : None ≡ Some x = sym (slice_get-map (joined d (numbering_of d)) (others d) i ∙ ap (option_map (joined d (numbering_of d))) f) ∙ e in
          absurd (cc)
      by i x e (Some storage) f =
          let z : Some (joined d (numbering_of d) storage) ≡ Some x = sym (slice_get-map (joined d (numbering_of d)) (others d) i ∙ ap (option_map (joined d (numbering_of d))) f) ∙ e in
          let is : joined d (numbering_of d) storage ≡ x = cc in
          subst (StorageKeeps (view_of d)) is
          (storage_keeps i storage f (all_at (StorageKeeps d) (others d) i storage (all_removed (StorageKeeps d) d.storages (bank_place d) h.formed.storages) f))

  codes_keep : (codes : List Code) → AllByRecursion (CodeKeeps d) codes → AllByRecursion (CodeKeeps (view_of d)) (map (renamed_code d) codes)
  codes_keep [] k = tt
  codes_keep (code ∷ codes) k = ((k.0.0, register_there d code.counter k.0.1), codes_keep codes k.1)

  pub view_formed : IsWellFormed (view_of d)
  view_formed = record {
    names = view_names_differ d h.formed.names;
    nets = nets_keep;
    storages = storages_keep;
    codes = codes_keep d.codes h.formed.codes;
    special = tt;
    limits = view_limits d h;
  }
