-- A clock of the view is a clock of its netlist.
use Rattle.std.proofs.Common.{◌≡◌, ℕ, zero, suc, ◌+◌, ◌-◌, ◌*◌, ◌^◌, ◌<◌, ◌≤◌, ◌==◌, Bool, true, false, cond, List, [], ◌∷◌, ◌++◌, length, map, slice_get, slice_index, slice_set, Option, Some, None, refl, ap, sym, ◌∙◌, subst, arith, nat_lt, option_map}
use Rattle.std.specs.Prelude.{bit_or, position}
use Rattle.std.specs.List.{remove, flat_map, AllByRecursion, position_from}
use Rattle.std.proofs.lemmas.Iterator.Adapters.{position_from-zero}
use Rattle.std.proofs.lemmas.List.{set-append_left, set-append_right}
use Rattle.rec_bits.proofs.Lists.{all_at, all_by_place}
use Rattle.net_model.specs.declared.hardware.Cells.{Cells}
use Rattle.net_model.specs.declared.hardware.Net.{Net}
use Rattle.net_model.specs.declared.hardware.Netlist.{Netlist}
use Rattle.net_model.specs.declared.hardware.Space.{Space}
use Rattle.net_model.specs.declared.hardware.Space.TheVariants.{Memory as InMemory, File as InFile}
use Rattle.net_model.specs.declared.hardware.Storage.{Storage}
use Rattle.net_model.specs.declared.hardware.Storage.TheVariants.{Register, Memory, File}
use Rattle.net_model.specs.declared.hardware.Gate.{Gate}
use Rattle.net_model.specs.declared.hardware.Gate.TheVariants.{Word, Reg, Read, Const, Wire, Un, Bin, Slice, Cat, Zext, Sext, Case, Bus}
use Rattle.net_model.specs.declared.states.State.{State}
use Rattle.net_model.specs.Nets.{array_in, driver_nets, space_at, width_at}
use Rattle.net_model.specs.Value.{gate_value, value_of}
use Rattle.net_model.specs.Clock.{clash_in, enabled_count, gate_clashes, is_enabled, next_reg, next_regs, next_cells, next_state, outcome_of, step, written, Outcome, Next, Clash}
use Rattle.net_model.specs.Order.{IsOrder}
use Rattle.net_model.specs.Widths.{HasWidth, DriversFit, IsState, WhenFits, WordFits}
use Rattle.net_model.specs.CheckedRules.{GateKeeps, NetKeeps, StorageKeeps, count_in, memory_count}
use Rattle.net_model.proofs.Fits.{value_fits}
use Rattle.bank_view.specs.declared.ports.Port.{Port}
use Rattle.bank_view.specs.Banks.{addr_bits, bank_place, bank_port, memory_port, others, port_in, port_of}
use Rattle.bank_view.specs.Inner.Banked.{IsBeside}
use Rattle.bank_view.specs.Keeping.{HasBanks, KeepsBanks}
use Rattle.bank_view.specs.Views.{access_nets, enable_nets, enable_count, enable_number, memory_enable, bank_enable, join_number, join_nets, net_number, renamed, numbering_of, joined, view_of, join_state}
use Rattle.bank_view.specs.Clocks.{WritesBoth, IsViewed, IsClash}
use Rattle.bank_view.proofs.Arrays.{there_in}
use Rattle.bank_view.proofs.Beside.{banks_of, beside_of, long_cells, typed_beside}
use Rattle.bank_view.proofs.Lists.{Holds, all_removed}
use Rattle.bank_view.proofs.Places.{all_view, bank_enable_there, bank_there, join_there, memory_access_there, memory_enable_there, net_there}
use Rattle.bank_view.proofs.Values.{same_value, view_net, access_value, same_count}

-- ---- no clash

module _ {X : Type 0} (test : X → Bool) where
  none_from : (i : ℕ) (xs : List X) → AllByRecursion (λ x. test x ≡ false) xs → position_from test i xs ≡ None
  none_from i [] h = refl
  none_from i (x ∷ xs) h = rw h.0 (none_from (i + 1) xs h.1)

  from_none : (i : ℕ) (xs : List X) → position_from test i xs ≡ None → AllByRecursion (λ x. test x ≡ false) xs
  from_none i [] e = tt
  from_none i (x ∷ xs) e = by (λ q. from_none (i + 1) xs q) (test x) refl
    where
      by : (position_from test (i + 1) xs ≡ None → AllByRecursion (λ y. test y ≡ false) xs) → (b : Bool) → test x ≡ b → (test x ≡ false) × AllByRecursion (λ y. test y ≡ false) xs
      by later true q =
          let s : Some i ≡ None = sym (ap (λ b. cond b (Some i) (position_from test (i + 1) xs)) q) ∙ e in
          absurd (cc)
      by later false q =
          (q, later (sym (ap (λ b. cond b (Some i) (position_from test (i + 1) xs)) q) ∙ e))

clash_none : (v : ℕ → ℕ) (nets : List Net) → AllByRecursion (λ (net : Net). gate_clashes v net.gate ≡ false) nets → clash_in v nets ≡ None
clash_none v nets h = position_from-zero (λ (net : Net). gate_clashes v net.gate) nets ∙ none_from (λ (net : Net). gate_clashes v net.gate) 0 nets h

none_clash : (v : ℕ → ℕ) (nets : List Net) → clash_in v nets ≡ None → AllByRecursion (λ (net : Net). gate_clashes v net.gate ≡ false) nets
none_clash v nets e =
    from_none (λ (net : Net). gate_clashes v net.gate) 0 nets
    (sym (position_from-zero (λ (net : Net). gate_clashes v net.gate) nets) ∙ e)

-- ---- the joined write

both_bits : (x y : ℕ) → x < 2 → y < 2 → (bit_or x y == 1) ≡ cond (x == 1) true (y == 1)
both_bits zero zero p q = refl
both_bits zero (suc zero) p q = refl
both_bits zero (suc (suc y)) p q = absurd (omega arith)
both_bits (suc zero) zero p q = refl
both_bits (suc zero) (suc zero) p q = refl
both_bits (suc zero) (suc (suc y)) p q = absurd (omega arith)
both_bits (suc (suc x)) y p q = absurd (omega arith)

module _ (cells bank : List ℕ) (low ma mv ba bv x y j0 j1 j2 : ℕ) (long : length cells ≡ low) (small : ma < low) (xb : x < 2) (yb : y < 2) (e0 : j0 ≡ cond (x == 1) mv (cond (y == 1) bv 0)) (e1 : j1 ≡ cond (x == 1) ma (cond (y == 1) (low + ba) 0)) (e2 : j2 ≡ bit_or x y) where
  write_joined : (bm bb : Bool) → (x == 1) ≡ bm → (y == 1) ≡ bb → (bm ≡ true → bb ≡ true → ⊥) → cond (j2 == 1) (slice_set (cells ++ bank) j1 j0) (cells ++ bank) ≡ cond bm (slice_set cells ma mv) cells ++ cond bb (slice_set bank ba bv) bank
  write_joined true true p q never = absurd (never refl refl)
  write_joined true false p q never =
      let on : (j2 == 1) ≡ true = ap (λ n. n == 1) e2 ∙ both_bits x y xb yb ∙ ap (λ b. cond b true (y == 1)) p in
      let f0 : j0 ≡ mv = e0 ∙ ap (λ b. cond b mv (cond (y == 1) bv 0)) p in
      let f1 : j1 ≡ ma = e1 ∙ ap (λ b. cond b ma (cond (y == 1) (low + ba) 0)) p in
      rw (on, f0, f1) (set-append_left cells bank ma mv (omega (arith, long, small)))
  write_joined false true p q never =
      let on : (j2 == 1) ≡ true = ap (λ n. n == 1) e2 ∙ both_bits x y xb yb ∙ ap (λ b. cond b true (y == 1)) p ∙ q in
      let f0 : j0 ≡ bv = e0 ∙ ap (λ b. cond b mv (cond (y == 1) bv 0)) p ∙ ap (λ b. cond b bv 0) q in
      let f1 : j1 ≡ low + ba = e1 ∙ ap (λ b. cond b ma (cond (y == 1) (low + ba) 0)) p ∙ ap (λ b. cond b (low + ba) 0) q in
      let back : low + ba - low ≡ ba = omega arith in
      rw (on, f0, f1) (set-append_right cells bank low (low + ba) bv long (omega arith) ∙ ap (λ n. cells ++ slice_set bank n bv) back)
  write_joined false false p q never =
      let off : (j2 == 1) ≡ false = ap (λ n. n == 1) e2 ∙ both_bits x y xb yb ∙ ap (λ b. cond b true (y == 1)) p ∙ q in
      rw off refl

-- ---- ports

-- what a port does to its cells
abbrev pub put : (ℕ → ℕ) → Port → List ℕ → List ℕ
put v port cells = cond (is_enabled v port.when) (slice_set cells (v port.addr) (v port.value)) cells

put_by : (v : ℕ → ℕ) (space : Space) (storages : List Storage) (cells : List ℕ) → count_in space storages ≡ 1 → next_cells v space storages cells ≡ put v (port_of (array_in space storages)) cells
put_by v space storages cells e = let t = there_in space storages e in by (array_in space storages) t.0 t.1
  where
    by : (o : Option Cells) (own : Cells) → o ≡ Some own → written v o cells ≡ put v (port_of o) cells
    by None own e = absurd (cc)
    by (Some other) own e = refl

joined_by : (d : Netlist) (v : ℕ → ℕ) (storages : List Storage) (cells : List ℕ) → memory_count storages ≡ 1 → next_cells v InMemory (map (joined d (numbering_of d)) storages) cells ≡ cond (v (join_number d (numbering_of d) + 2) == 1) (slice_set cells (v (join_number d (numbering_of d) + 1)) (v (join_number d (numbering_of d)))) cells
joined_by d v [] cells e = absurd (omega (arith, e))
joined_by d v (Register name width input when ∷ storages) cells e = joined_by d v storages cells (omega (arith, e))
joined_by d v (Memory own ∷ storages) cells e = refl
joined_by d v (File own ∷ storages) cells e = joined_by d v storages cells (omega (arith, e))

-- where there are no cells, none are written
none_written : (v : ℕ → ℕ) (o : Option Cells) → written v o [] ≡ []
none_written v None = refl
none_written v (Some cells) = by (is_enabled v cells.when)
  where
    by : (b : Bool) → cond b (slice_set [] (v cells.addr) (v cells.value)) [] ≡ []
    by true = refl
    by false = refl

-- what feeds a memory are nets of its widths
pub record PortFits (netlist : Netlist) (port : Port) : Type 0 where
  pub value : HasWidth netlist port.value port.width
  pub addr : HasWidth netlist port.addr port.addr_width
  pub when : WhenFits netlist port.when

port_fits : (netlist : Netlist) (space : Space) (storages : List Storage) → AllByRecursion (StorageKeeps netlist) storages → count_in space storages ≡ 1 → PortFits netlist (port_of (array_in space storages))
port_fits netlist space [] h e = absurd (omega (arith, e))
port_fits netlist InMemory (Register name width input when ∷ storages) h e = port_fits netlist InMemory storages h.1 (omega (arith, e))
port_fits netlist InMemory (Memory cells ∷ storages) h e = record { value = h.0.2.0; addr = h.0.2.1; when = h.0.2.2 }
port_fits netlist InMemory (File cells ∷ storages) h e = port_fits netlist InMemory storages h.1 (omega (arith, e))
port_fits netlist InFile (Register name width input when ∷ storages) h e = port_fits netlist InFile storages h.1 (omega (arith, e))
port_fits netlist InFile (Memory cells ∷ storages) h e = port_fits netlist InFile storages h.1 (omega (arith, e))
port_fits netlist InFile (File cells ∷ storages) h e = record { value = h.0.2.0; addr = h.0.2.1; when = h.0.2.2 }

pub memory_fits : (d : Netlist) → IsBeside d → AllByRecursion (StorageKeeps d) d.storages → PortFits d (memory_port d)
memory_fits d h k = port_fits d InMemory d.storages k h.memories

pub bank_fits : (d : Netlist) → IsBeside d → AllByRecursion (StorageKeeps d) d.storages → PortFits d (bank_port d)
bank_fits d h k = port_fits d InFile d.storages k h.lone

-- ---- registers

regs_without : (v : ℕ → ℕ) (storages : List Storage) (regs : List ℕ) (b : ℕ) → length regs ≡ length storages → next_regs v (remove storages b) (remove regs b) ≡ remove (next_regs v storages regs) b
regs_without v [] regs zero e = refl
regs_without v [] regs (suc b) e = refl
regs_without v (storage ∷ storages) [] b e = absurd (omega arith)
regs_without v (storage ∷ storages) (r ∷ regs) zero e = refl
regs_without v (storage ∷ storages) (r ∷ regs) (suc b) e = ap (λ l. next_reg v storage r ∷ l) (regs_without v storages regs b (omega arith))

-- ---- the clock

module _ (d : Netlist) (order : List ℕ) (k : KeepsBanks d order) (places : List ℕ) (vo : IsOrder (view_of d) places) (s : State) (word : ℕ) (is : IsState d s) (w : WordFits d word) where
  abbrev v : ℕ → ℕ
  v n = value_of (view_of d) (join_state d s) word n

  abbrev u : ℕ → ℕ
  u n = value_of d s word n

  abbrev p : ℕ → ℕ
  p n = net_number d (numbering_of d) n

  banks : HasBanks d
  banks = banks_of d order k

  beside : IsBeside d
  beside = beside_of d banks

  long : length s.cells ≡ 2 ^ addr_bits d
  long = long_cells d beside s is

  small : (n : ℕ) → u n < 2 ^ width_at d n
  small n = value_fits d s word (typed_beside d banks) is.fits w (length d.nets) n

  pub same : (n : ℕ) → n < length d.nets → v (p n) ≡ u n
  same n lt = same_value d beside places vo s word long small order k.rules.ordered k.rules.formed.nets n lt

  at_bits : (n bits : ℕ) → HasWidth d n bits → u n < 2 ^ bits
  at_bits n bits h = subst (λ b. u n < 2 ^ b) h.1 (small n)

  -- the equation of a net of the view
  eq_of : (n : ℕ) (net : Net) → slice_get (view_of d).nets n ≡ Some net → v n ≡ gate_value v (view_of d) (join_state d s) word net.width net.gate
  eq_of n net e = view_net d beside places vo s word long n net e

  -- ---- the enables

  enable_same : (name at : ℕ) (when : Option ℕ) → WhenFits d when → Holds (view_of d).nets at (enable_nets name when) → (v (enable_number p at when) == 1) ≡ is_enabled u when
  enable_same name at None f there = ap (λ n. n == 1) (eq_of at _ there.0)
  enable_same name at (Some when) f there = ap (λ n. n == 1) (same when f.0)

  enable_bit : (name at : ℕ) (when : Option ℕ) → WhenFits d when → Holds (view_of d).nets at (enable_nets name when) → v (enable_number p at when) < 2
  enable_bit name at None f there = let e : v at ≡ 1 = eq_of at _ there.0 in omega (arith, e)
  enable_bit name at (Some when) f there =
      let e : v (p when) ≡ u when = same when f.0 in
      let b : u when < 2 ^ 1 = at_bits when 1 f in
      omega (arith, e, b)

  memory_port_fits : PortFits d (memory_port d)
  memory_port_fits = memory_fits d beside k.rules.formed.storages

  bank_port_is : PortFits d (bank_port d)
  bank_port_is = bank_fits d beside k.rules.formed.storages

  memory_on : (v (memory_enable d (numbering_of d)) == 1) ≡ is_enabled u (memory_port d).when
  memory_on = enable_same (memory_port d).name_at ((numbering_of d).memory + 1) (memory_port d).when memory_port_fits.when (memory_enable_there d)

  bank_on : (v (bank_enable d (numbering_of d)) == 1) ≡ is_enabled u (bank_port d).when
  bank_on = enable_same (memory_port d).name_at ((numbering_of d).memory + 1 + enable_count (memory_port d).when) (bank_port d).when bank_port_is.when (bank_enable_there d)

  memory_bit : v (memory_enable d (numbering_of d)) < 2
  memory_bit = enable_bit (memory_port d).name_at ((numbering_of d).memory + 1) (memory_port d).when memory_port_fits.when (memory_enable_there d)

  bank_bit : v (bank_enable d (numbering_of d)) < 2
  bank_bit = enable_bit (memory_port d).name_at ((numbering_of d).memory + 1 + enable_count (memory_port d).when) (bank_port d).when bank_port_is.when (bank_enable_there d)

  -- ---- the addresses of both writes

  memory_small : u (memory_port d).addr < 2 ^ addr_bits d
  memory_small = at_bits (memory_port d).addr (addr_bits d) memory_port_fits.addr

  bank_small : u (bank_port d).addr < 2 ^ addr_bits d
  bank_small = subst (λ n. u (bank_port d).addr < 2 ^ n) beside.addresses (at_bits (bank_port d).addr (bank_port d).addr_width bank_port_is.addr)

  memory_addr : v (numbering_of d).memory ≡ u (memory_port d).addr
  memory_addr =
      let e : v (p (memory_port d).addr) ≡ u (memory_port d).addr = same (memory_port d).addr memory_port_fits.addr.0 in
      let lt : v (p (memory_port d).addr) < 2 ^ addr_bits d = subst (λ n. n < 2 ^ addr_bits d) (sym e) memory_small in
      let a : v (numbering_of d).memory ≡ 0 + v (p (memory_port d).addr) =
      access_value d beside places vo s word long InMemory (memory_port d).name_at (numbering_of d).memory (p (memory_port d).addr) (memory_access_there d) lt in
      omega (arith, a, e)

  bank_addr : v ((numbering_of d).bank + 2) ≡ 2 ^ addr_bits d + u (bank_port d).addr
  bank_addr =
      let e : v (p (bank_port d).addr) ≡ u (bank_port d).addr = same (bank_port d).addr bank_port_is.addr.0 in
      let lt : v (p (bank_port d).addr) < 2 ^ addr_bits d = subst (λ n. n < 2 ^ addr_bits d) (sym e) bank_small in
      access_value d beside places vo s word long InFile (bank_port d).name_at (numbering_of d).bank (p (bank_port d).addr) (bank_there d) lt
      ∙ ap (λ n. 2 ^ addr_bits d + n) e

  -- ---- the three nets that join them

  join_value : v (join_number d (numbering_of d)) ≡ cond (v (memory_enable d (numbering_of d)) == 1) (u (memory_port d).value) (cond (v (bank_enable d (numbering_of d)) == 1) (u (bank_port d).value) 0)
  join_value =
      eq_of (join_number d (numbering_of d)) _ (join_there d).0
      ∙ ap (λ n. cond (v (memory_enable d (numbering_of d)) == 1) n (cond (v (bank_enable d (numbering_of d)) == 1) (v (p (bank_port d).value)) 0)) (same (memory_port d).value memory_port_fits.value.0)
      ∙ ap (λ n. cond (v (memory_enable d (numbering_of d)) == 1) (u (memory_port d).value) (cond (v (bank_enable d (numbering_of d)) == 1) n 0)) (same (bank_port d).value bank_port_is.value.0)

  join_addr : v (join_number d (numbering_of d) + 1) ≡ cond (v (memory_enable d (numbering_of d)) == 1) (u (memory_port d).addr) (cond (v (bank_enable d (numbering_of d)) == 1) (2 ^ addr_bits d + u (bank_port d).addr) 0)
  join_addr =
      let q : suc (join_number d (numbering_of d)) ≡ join_number d (numbering_of d) + 1 = omega arith in
      ap v (sym q)
      ∙ eq_of (suc (join_number d (numbering_of d))) _ (join_there d).1.0
      ∙ ap (λ n. cond (v (memory_enable d (numbering_of d)) == 1) n (cond (v (bank_enable d (numbering_of d)) == 1) (v ((numbering_of d).bank + 2)) 0)) memory_addr
      ∙ ap (λ n. cond (v (memory_enable d (numbering_of d)) == 1) (u (memory_port d).addr) (cond (v (bank_enable d (numbering_of d)) == 1) n 0)) bank_addr

  join_when : v (join_number d (numbering_of d) + 2) ≡ bit_or (v (memory_enable d (numbering_of d))) (v (bank_enable d (numbering_of d)))
  join_when =
      let q : suc (suc (join_number d (numbering_of d))) ≡ join_number d (numbering_of d) + 2 = omega arith in
      ap v (sym q) ∙ eq_of (suc (suc (join_number d (numbering_of d)))) _ (join_there d).1.1.0

  -- ---- the next cells and registers

  next_joined : (WritesBoth d s word → ⊥) → next_cells v InMemory (view_of d).storages (s.cells ++ s.file) ≡ next_cells u InMemory d.storages s.cells ++ next_cells u InFile d.storages s.file
  next_joined never =
      joined_by d v (others d) (s.cells ++ s.file) beside.one
      ∙ write_joined s.cells s.file (2 ^ addr_bits d) (u (memory_port d).addr) (u (memory_port d).value) (u (bank_port d).addr) (u (bank_port d).value)
      (v (memory_enable d (numbering_of d))) (v (bank_enable d (numbering_of d)))
      (v (join_number d (numbering_of d))) (v (join_number d (numbering_of d) + 1)) (v (join_number d (numbering_of d) + 2))
      long memory_small memory_bit bank_bit join_value join_addr join_when
      (is_enabled u (memory_port d).when) (is_enabled u (bank_port d).when) memory_on bank_on
      (λ a b. never (record { memory = a; bank = b }))
      ∙ ap (λ (l : List ℕ). l ++ put u (bank_port d) s.file) (sym (put_by u InMemory d.storages s.cells beside.memories))
      ∙ ap (λ (l : List ℕ). next_cells u InMemory d.storages s.cells ++ l) (sym (put_by u InFile d.storages s.file beside.lone))

  enabled_same : (when : Option ℕ) → WhenFits d when → is_enabled v (option_map p when) ≡ is_enabled u when
  enabled_same None f = refl
  enabled_same (Some when) f = ap (λ n. n == 1) (same when f.0)

  reg_same : (storage : Storage) (old : ℕ) → StorageKeeps d storage → next_reg v (joined d (numbering_of d) storage) old ≡ next_reg u storage old
  reg_same (Memory cells) old f = refl
  reg_same (File cells) old f = refl
  reg_same (Register name width input when) old f =
      ap (λ b. cond b (v (p input)) old) (enabled_same when f.1.1)
      ∙ ap (λ n. cond (is_enabled u when) n old) (same input f.1.0.0)

  regs_same : (storages : List Storage) (regs : List ℕ) → AllByRecursion (StorageKeeps d) storages → next_regs v (map (joined d (numbering_of d)) storages) regs ≡ next_regs u storages regs
  regs_same [] regs f = refl
  regs_same (storage ∷ storages) [] f = refl
  regs_same (storage ∷ storages) (old ∷ olds) f = rw (reg_same storage old f.0, regs_same storages olds f.1) refl

  next_view : (WritesBoth d s word → ⊥) → next_state v (view_of d) (join_state d s) ≡ join_state d (next_state u d s)
  next_view never =
      let r : next_regs v (view_of d).storages (remove s.regs (bank_place d)) ≡ remove (next_regs u d.storages s.regs) (bank_place d) =
      regs_same (others d) (remove s.regs (bank_place d)) (all_removed (StorageKeeps d) d.storages (bank_place d) k.rules.formed.storages)
      ∙ regs_without u d.storages s.regs (bank_place d) is.regs in
      ap (λ (l : List ℕ). made l (next_cells v InMemory (view_of d).storages (s.cells ++ s.file)) (next_cells v InFile (view_of d).storages [])) r
      ∙ ap (λ (l : List ℕ). made (remove (next_regs u d.storages s.regs) (bank_place d)) l (next_cells v InFile (view_of d).storages [])) (next_joined never)
      ∙ ap (λ (l : List ℕ). made (remove (next_regs u d.storages s.regs) (bank_place d)) (next_cells u InMemory d.storages s.cells ++ next_cells u InFile d.storages s.file) l) (none_written v (array_in InFile (view_of d).storages))
    where
      made : List ℕ → List ℕ → List ℕ → State
      made regs cells file = record { regs = regs; cells = cells; file = file }

  -- ---- clashes

  drivers_agree : (width : ℕ) (drivers : List (ℕ × ℕ)) → DriversFit d width drivers → AllByRecursion (λ m. (v (p m) ≡ u m) × (m < length d.nets)) (driver_nets drivers)
  drivers_agree width [] f = tt
  drivers_agree width (driver ∷ drivers) f =
      ((same driver.0 f.0.0, f.0.0), ((same driver.1 f.1.0, f.1.0), drivers_agree width drivers f.2))

  gate_clash_same : (at width : ℕ) (gate : Gate) → GateKeeps d width gate → gate_clashes v (renamed d p at gate) ≡ gate_clashes u gate
  gate_clash_same at width (Word code) f = refl
  gate_clash_same at width (Reg id) f = refl
  gate_clash_same at width (Read memory addr) f = refl
  gate_clash_same at width (Const c) f = refl
  gate_clash_same at width (Wire a) f = refl
  gate_clash_same at width (Un op a) f = refl
  gate_clash_same at width (Bin op a b) f = refl
  gate_clash_same at width (Slice of hi lo) f = refl
  gate_clash_same at width (Cat a b) f = refl
  gate_clash_same at width (Zext a) f = refl
  gate_clash_same at width (Sext a) f = refl
  gate_clash_same at width (Case sel rows rest) f = refl
  gate_clash_same at width (Bus drivers) f =
      ap (nat_lt 1) (same_count v u p (λ n. n < length d.nets) drivers (drivers_agree width drivers f))

  -- whether a net of the view doesn't clash
  abbrev Free : Net → Type 0
  Free net = gate_clashes v net.gate ≡ false

  access_free : (space : Space) (name at addr : ℕ) → AllByRecursion Free (access_nets space d name at addr)
  access_free InMemory name at addr = (refl, tt)
  access_free InFile name at addr = (refl, (refl, (refl, tt)))

  enable_free : (name : ℕ) (when : Option ℕ) → AllByRecursion Free (enable_nets name when)
  enable_free name None = (refl, tt)
  enable_free name (Some when) = tt

  not_both : (x y : Bool) → (x ≡ true → y ≡ true → ⊥) → nat_lt 1 (cond x 1 0 + (cond y 1 0 + 0)) ≡ false
  not_both true true h = absurd (h refl refl)
  not_both true false h = refl
  not_both false true h = refl
  not_both false false h = refl

  both_clash : (x y : Bool) → x ≡ true → y ≡ true → nat_lt 1 (cond x 1 0 + (cond y 1 0 + 0)) ≡ true
  both_clash true true e f = refl
  both_clash true false e f = absurd (cc)
  both_clash false y e f = absurd (cc)

  join_free : (WritesBoth d s word → ⊥) → AllByRecursion Free (join_nets d (numbering_of d))
  join_free never =
      let f = not_both (v (memory_enable d (numbering_of d)) == 1) (v (bank_enable d (numbering_of d)) == 1)
      (λ (a : (v (memory_enable d (numbering_of d)) == 1) ≡ true) (b : (v (bank_enable d (numbering_of d)) == 1) ≡ true). never (record { memory = sym memory_on ∙ a; bank = sym bank_on ∙ b })) in
      (f, (f, (refl, tt)))

  -- no clash there, and none in the view
  view_free : (WritesBoth d s word → ⊥) → clash_in u d.nets ≡ None → clash_in v (view_of d).nets ≡ None
  view_free never e =
      clash_none v (view_of d).nets (all_view d Free access_free enable_free (join_free never) (λ n net there.
      let f : NetKeeps d (Some net) = subst (λ (o : Option Net). NetKeeps d o) there (k.rules.formed.nets n) in
      gate_clash_same ((numbering_of d).first n) net.width net.gate f.1
      ∙ all_at (λ (x : Net). gate_clashes u x.gate ≡ false) d.nets n net (none_clash u d.nets e) there))

  -- and the other way round
  free_view : clash_in v (view_of d).nets ≡ None → clash_in u d.nets ≡ None
  free_view e =
      clash_none u d.nets (all_by_place (λ (net : Net). gate_clashes u net.gate ≡ false) d.nets (λ i net there.
      let f : NetKeeps d (Some net) = subst (λ (o : Option Net). NetKeeps d o) there (k.rules.formed.nets i) in
      sym (gate_clash_same ((numbering_of d).first i) net.width net.gate f.1)
      ∙ all_at Free (view_of d).nets (p i) (record net { gate = renamed d p ((numbering_of d).first i) net.gate })
      (none_clash v (view_of d).nets e) (net_there d i net there)))

  -- a word that writes both memories clashes
  pub both : WritesBoth d s word → IsClash (step (view_of d) (join_state d s) word)
  both h = by (clash_in v (view_of d).nets) refl
    where
      by : (o : Option ℕ) → clash_in v (view_of d).nets ≡ o → IsClash (outcome_of v (view_of d) (join_state d s) o)
      by (Some bus) e = tt
      by None e =
          let f = all_at Free (view_of d).nets (join_number d (numbering_of d)) _ (none_clash v (view_of d).nets e) (join_there d).0 in
          let t = both_clash (v (memory_enable d (numbering_of d)) == 1) (v (bank_enable d (numbering_of d)) == 1) (memory_on ∙ h.memory) (bank_on ∙ h.bank) in
          absurd (cc (f, t))

  -- every other word does in the view what it does in the netlist
  pub one : (WritesBoth d s word → ⊥) → IsViewed d (step d s word) (step (view_of d) (join_state d s) word)
  one never = by (clash_in u d.nets) (clash_in v (view_of d).nets) refl refl
    where
      by : (a b : Option ℕ) → clash_in u d.nets ≡ a → clash_in v (view_of d).nets ≡ b → IsViewed d (outcome_of u d s a) (outcome_of v (view_of d) (join_state d s) b)
      by None None e f = next_view never
      by (Some x) (Some y) e f = tt
      by None (Some y) e f = let g = view_free never e in absurd (cc)
      by (Some x) None e f = let g = free_view f in absurd (cc)
