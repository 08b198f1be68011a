-- The values of the nets of a view are those of the netlist's own nets.
use Rattle.std.proofs.Common.{◌≡◌, ℕ, zero, suc, ◌+◌, ◌-◌, ◌*◌, ◌^◌, ◌%◌, ◌<◌, ◌≤◌, ◌==◌, Bool, true, false, cond, List, [], ◌∷◌, ◌++◌, length, map, slice_get, slice_index, Option, Some, None, refl, ap, sym, ◌∙◌, subst, arith, inl, inr, nat_lt, option_map}
use Rattle.std.specs.List.{remove, AllByRecursion}
use Rattle.std.proofs.lemmas.Option.{slice_get_within, slice_get_cases}
use Rattle.std.proofs.lemmas.List.{get_or_append_left, get_or-append-add}
use Rattle.std.proofs.Math.Nat.{mod-eq_of_lt, pow-suc}
use Rattle.std.proofs.Math.Numerals.{add-one}
use Rattle.rec_bits.proofs.Lists.{all_weaker}
use Rattle.rec_bits.specs.Operators.{apply1_of, apply2_of, slice_of, cat_of, sext_of}
use Rattle.rec_bits.specs.declared.operator.Op2.TheVariants.{Add}
use Rattle.net_model.specs.declared.hardware.Net.{Net}
use Rattle.net_model.specs.declared.hardware.Netlist.{Netlist}
use Rattle.net_model.specs.declared.hardware.Storage.{Storage}
use Rattle.net_model.specs.declared.hardware.Storage.TheVariants.{Register, Memory, File}
use Rattle.net_model.specs.declared.hardware.Space.{Space}
use Rattle.net_model.specs.declared.hardware.Space.TheVariants.{Memory as InMemory, File as InFile}
use Rattle.net_model.specs.declared.hardware.Gate.{Gate}
use Rattle.net_model.specs.declared.hardware.Gate.TheVariants.{Word, Reg, Read, Const, Wire, Un, Bin, Slice, Cat, Zext, Sext, Case, Bus}
use Rattle.net_model.specs.declared.states.State.{State}
use Rattle.net_model.specs.Nets.{gate_nets, held, memory_id, net_width, nets_of, row_nets, driver_nets, space_at, space_of, width_at}
use Rattle.net_model.specs.Value.{case_value, bus_value, gate_value, net_value, value_of}
use Rattle.net_model.specs.Clock.{enabled_count}
use Rattle.net_model.specs.Order.{position_of, IsOrder}
use Rattle.net_model.specs.CheckedRules.{GateKeeps, NetKeeps}
use Rattle.net_model.proofs.Orders.{value_is}
use Rattle.bank_view.specs.Banks.{addr_bits, bank_place, others}
use Rattle.bank_view.specs.Inner.Banked.{IsBeside}
use Rattle.bank_view.specs.Views.{access_nets, access_end, added_nets, joined, net_number, storage_number, renamed, renamed_rows, renamed_drivers, numbering_of, view_of, join_state}
use Rattle.bank_view.proofs.Lists.{Holds, removed_at, index_is}
use Rattle.bank_view.proofs.Places.{added_there, before_within, net_there, view_width}
use Rattle.bank_view.proofs.Arrays.{not_bank, read_addr}

-- what a value of the view is to be at a net of the netlist
abbrev pub Same : Netlist → State → ℕ → ℕ → Type 0
Same d s word n =
    (value_of (view_of d) (join_state d s) word (net_number d (numbering_of d) n) ≡ value_of d s word n)
    × (n < length d.nets)

-- every read of the view is of its memory
memory_space : (d : Netlist) (storages : List Storage) → space_of (slice_get (map (joined d (numbering_of d)) storages) (memory_id storages)) ≡ InMemory
memory_space d [] = refl
memory_space d (Register name width input when ∷ storages) = memory_space d storages
memory_space d (Memory cells ∷ storages) = refl
memory_space d (File cells ∷ storages) = memory_space d storages

pub view_space : (d : Netlist) → space_at (view_of d) (memory_id (others d)) ≡ InMemory
view_space d = memory_space d (others d)

module _ (d : Netlist) (h : IsBeside d) (places : List ℕ) (vo : IsOrder (view_of d) places) (s : State) (word : ℕ) (long : length s.cells ≡ 2 ^ addr_bits d) where
  -- the equation of a net of the view
  pub view_net : (n : ℕ) (net : Net) → slice_get (view_of d).nets n ≡ Some net → value_of (view_of d) (join_state d s) word n ≡ gate_value (value_of (view_of d) (join_state d s) word) (view_of d) (join_state d s) word net.width net.gate
  view_net n net e =
      value_is (view_of d) (join_state d s) word places vo n (slice_get_within (view_of d).nets n net e)
      ∙ ap (net_value (value_of (view_of d) (join_state d s) word) (view_of d) (join_state d s) word) e

  -- ---- accesses

  -- where the cells of a memory begin
  abbrev pub base : Space → ℕ
  base InMemory = 0
  base InFile = 2 ^ addr_bits d

  pub access_value : (space : Space) (name at addr : ℕ) → Holds (view_of d).nets at (access_nets space d name at addr) → value_of (view_of d) (join_state d s) word addr < 2 ^ addr_bits d → value_of (view_of d) (join_state d s) word (access_end space at) ≡ base space + value_of (view_of d) (join_state d s) word addr
  access_value InMemory name at addr there lt = view_net at _ there.0 ∙ omega arith
  access_value InFile name at addr there lt =
      let a : ℕ = value_of (view_of d) (join_state d s) word addr in
      let third : suc (suc at) ≡ at + 2 = omega arith in
      let second : suc at ≡ at + 1 = omega arith in
      let e0 : value_of (view_of d) (join_state d s) word at ≡ a = view_net at _ there.0 in
      let e1 : value_of (view_of d) (join_state d s) word (at + 1) ≡ 2 ^ addr_bits d = subst (λ n. value_of (view_of d) (join_state d s) word n ≡ 2 ^ addr_bits d) second (view_net (suc at) _ there.1.0) in
      let e2 : value_of (view_of d) (join_state d s) word (at + 2) ≡ apply2_of Add (width_at (view_of d) at) (value_of (view_of d) (join_state d s) word at) (value_of (view_of d) (join_state d s) word (at + 1)) =
      subst (λ n. value_of (view_of d) (join_state d s) word n ≡ apply2_of Add (width_at (view_of d) at) (value_of (view_of d) (join_state d s) word at) (value_of (view_of d) (join_state d s) word (at + 1))) third (view_net (suc (suc at)) _ there.1.1.0) in
      let wide : width_at (view_of d) at ≡ addr_bits d + 1 = ap net_width there.0 in
      e2 ∙ cc (e0, e1, wide, sum_fits a lt)
    where
      sum_fits : (a : ℕ) → a < 2 ^ addr_bits d → (a + 2 ^ addr_bits d) % 2 ^ (addr_bits d + 1) ≡ 2 ^ addr_bits d + a
      sum_fits a lt =
          let twice : 2 ^ (addr_bits d + 1) ≡ 2 ^ addr_bits d * 2 = ap (λ n. 2 ^ n) (add-one (addr_bits d)) ∙ pow-suc 2 (addr_bits d) in
          let small : a + 2 ^ addr_bits d < 2 ^ (addr_bits d + 1) = omega (arith, twice, lt) in
          mod-eq_of_lt small ∙ omega arith

  -- a read of the joined cells
  pub joined_cell : (space : Space) (a : ℕ) → a < 2 ^ addr_bits d → slice_index (s.cells ++ s.file) (base space + a) ≡ slice_index (held s space) a
  joined_cell InMemory a lt =
      let z : 0 + a ≡ a = omega arith in
      ap (slice_index (s.cells ++ s.file)) z ∙ get_or_append_left s.cells s.file 0 a (omega (arith, long, lt))
  joined_cell InFile a lt =
      ap (λ n. slice_index (s.cells ++ s.file) (n + a)) (sym long) ∙ get_or-append-add s.cells s.file a 0

-- ---- gates, by the values that they are told

module _ (v u : ℕ → ℕ) (p : ℕ → ℕ) (IsIn : ℕ → Type 0) where
  -- two values that agree at these nets, which are there
  abbrev pub AgreeAt : List ℕ → Type 0
  AgreeAt ms = AllByRecursion (λ m. (v (p m) ≡ u m) × IsIn m) ms

  same_case : (key : ℕ) (rows : List (ℕ × ℕ)) (rest : Option ℕ) → AgreeAt (row_nets rows rest) → case_value v key (renamed_rows p rows) (option_map p rest) ≡ case_value u key rows rest
  same_case key [] None h = refl
  same_case key [] (Some n) h = h.0.0
  same_case key (row ∷ rows) rest h =
      let e : v (p row.1) ≡ u row.1 = h.0.0 in
      rw (e, same_case key rows rest h.1) refl

  same_bus : (drivers : List (ℕ × ℕ)) → AgreeAt (driver_nets drivers) → bus_value v (renamed_drivers p drivers) ≡ bus_value u drivers
  same_bus [] h = refl
  same_bus (driver ∷ drivers) h =
      let e : v (p driver.0) ≡ u driver.0 = h.0.0 in
      let g : v (p driver.1) ≡ u driver.1 = h.1.0.0 in
      rw (e, g, same_bus drivers h.1.1) refl

  pub same_count : (drivers : List (ℕ × ℕ)) → AgreeAt (driver_nets drivers) → enabled_count v (renamed_drivers p drivers) ≡ enabled_count u drivers
  same_count [] h = refl
  same_count (driver ∷ drivers) h =
      let g : v (p driver.1) ≡ u driver.1 = h.1.0.0 in
      rw (g, same_count drivers h.1.1) refl

module _ (d : Netlist) (h : IsBeside d) (places : List ℕ) (vo : IsOrder (view_of d) places) (s : State) (word : ℕ) (long : length s.cells ≡ 2 ^ addr_bits d) (fits : (m : ℕ) → value_of d s word m < 2 ^ width_at d m) where
  -- a gate of the view has the value of its gate
  gate_same : (name at width : ℕ) (gate : Gate) → Holds (view_of d).nets at (added_nets d (net_number d (numbering_of d)) name at gate) → GateKeeps d width gate → AllByRecursion (Same d s word) (gate_nets gate) → gate_value (value_of (view_of d) (join_state d s) word) (view_of d) (join_state d s) word width (renamed d (net_number d (numbering_of d)) at gate) ≡ gate_value (value_of d s word) d s word width gate
  gate_same name at width (Word code) there k a = refl
  gate_same name at width (Reg id) there k a =
      index_is (remove s.regs (bank_place d)) s.regs (storage_number d id) id (removed_at s.regs (bank_place d) id (not_bank d id k.0))
  gate_same name at width (Read memory addr) there k a =
      let e : value_of (view_of d) (join_state d s) word (net_number d (numbering_of d) addr) ≡ value_of d s word addr = a.0.0 in
      let small : value_of d s word addr < 2 ^ addr_bits d = subst (λ n. value_of d s word addr < 2 ^ n) (read_addr d h width addr memory k).1 (fits addr) in
      let lt : value_of (view_of d) (join_state d s) word (net_number d (numbering_of d) addr) < 2 ^ addr_bits d = subst (λ n. n < 2 ^ addr_bits d) (sym e) small in
      let last : ℕ = value_of (view_of d) (join_state d s) word (access_end (space_at d memory) at) in
      ap (λ (space : Space). slice_index (held (join_state d s) space) last) (view_space d)
      ∙ ap (slice_index (s.cells ++ s.file)) (access_value d h places vo s word long (space_at d memory) name at (net_number d (numbering_of d) addr) there lt)
      ∙ joined_cell d h places vo s word long (space_at d memory) _ lt
      ∙ ap (slice_index (held s (space_at d memory))) e
  gate_same name at width (Const c) there k a = refl
  gate_same name at width (Wire x) there k a = a.0.0
  gate_same name at width (Un op x) there k a = ap (apply1_of op width) a.0.0
  gate_same name at width (Bin op x y) there k a = cc (a.0.0, a.1.0.0, view_width d x a.0.1)
  gate_same name at width (Slice of hi lo) there k a = ap (λ n. slice_of n hi lo) a.0.0
  gate_same name at width (Cat x y) there k a = cc (a.0.0, a.1.0.0, view_width d y a.1.0.1)
  gate_same name at width (Zext x) there k a = a.0.0
  gate_same name at width (Sext x) there k a = cc (a.0.0, view_width d x a.0.1)
  gate_same name at width (Case sel rows rest) there k a =
      ap (λ n. case_value (value_of (view_of d) (join_state d s) word) n (renamed_rows (net_number d (numbering_of d)) rows) (option_map (net_number d (numbering_of d)) rest)) a.0.0
      ∙ same_case (value_of (view_of d) (join_state d s) word) (value_of d s word) (net_number d (numbering_of d)) (λ n. n < length d.nets) (value_of d s word sel) rows rest a.1
  gate_same name at width (Bus drivers) there k a =
      same_bus (value_of (view_of d) (join_state d s) word) (value_of d s word) (net_number d (numbering_of d)) (λ n. n < length d.nets) drivers a

  module _ (order : List ℕ) (o : IsOrder d order) (keeps : (n : ℕ) → NetKeeps d (slice_get d.nets n)) where
    same_below : (b n : ℕ) → position_of order n < b → n < length d.nets → value_of (view_of d) (join_state d s) word (net_number d (numbering_of d) n) ≡ value_of d s word n
    same_below zero n p lt = absurd (omega arith)
    same_below (suc b) n p lt =
        elim (slice_get_cases d.nets n).1 as (λ _. value_of (view_of d) (join_state d s) word (net_number d (numbering_of d) n) ≡ value_of d s word n) [
          | inr c ↦ absurd (omega (arith, c.0))
          | inl c ↦
              let names : AllByRecursion (λ m. position_of order m < position_of order n) (gate_nets c.0.gate) =
              subst (λ (x : Option Net). AllByRecursion (λ m. position_of order m < position_of order n) (nets_of x)) c.2 (o.falls n) in
              let agree : AllByRecursion (Same d s word) (gate_nets c.0.gate) =
              all_weaker (λ m. position_of order m < position_of order n) (Same d s word)
              (λ m q. (same_below b m (omega (arith, p, q)) (before_within d order o n m lt q), before_within d order o n m lt q)) (gate_nets c.0.gate) names in
              let kept : NetKeeps d (Some c.0) = subst (λ (x : Option Net). NetKeeps d x) c.2 (keeps n) in
              view_net d h places vo s word long (net_number d (numbering_of d) n) _ (net_there d n c.0 c.2)
              ∙ gate_same c.0.name_at ((numbering_of d).first n) c.0.width c.0.gate (added_there d n c.0 c.2) kept.1 agree
              ∙ sym (ap (net_value (value_of d s word) d s word) c.2)
              ∙ sym (value_is d s word order o n lt)
        ]

    pub same_value : (n : ℕ) → n < length d.nets → value_of (view_of d) (join_state d s) word (net_number d (numbering_of d) n) ≡ value_of d s word n
    same_value n lt = same_below (suc (position_of order n)) n (omega arith) lt
