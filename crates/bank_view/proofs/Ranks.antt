-- An order of the nets of a view: each net's block in the order of the nets, then the bank's and the
-- memory's.
use Rattle.std.proofs.Common.{◌≡◌, ℕ, zero, suc, ◌+◌, ◌-◌, ◌*◌, ◌<◌, ◌≤◌, nat_lt, if◌then◌else◌, Bool, true, false, cond, List, [], ◌∷◌, ◌++◌, length, map, option_map, slice_get, slice_index, Option, Some, None, refl, ap, sym, ◌∙◌, subst, arith, inl, inr}
use Rattle.std.specs.List.{AllByRecursion, flat_map}
use Rattle.std.proofs.lemmas.Bool.{cases_lt, le-ltb, lt-ltb}
use Rattle.std.proofs.lemmas.Option.{slice_get_within}
use Rattle.rec_bits.proofs.Lists.{all_weaker, get_left, none_within}
use Rattle.net_model.specs.declared.hardware.Net.{Net}
use Rattle.net_model.specs.declared.hardware.Netlist.{Netlist}
use Rattle.net_model.specs.declared.hardware.Gate.{Gate}
use Rattle.net_model.specs.declared.hardware.Gate.TheVariants.{Word, Reg, Read, Const, Wire, Un, Bin, Slice, Cat, Zext, Sext, Case, Bus}
use Rattle.net_model.specs.declared.hardware.Space.{Space}
use Rattle.net_model.specs.declared.hardware.Space.TheVariants.{Memory as InMemory, File as InFile}
use Rattle.net_model.specs.Nets.{driver_nets, gate_nets, memory_id, nets_of, row_nets, space_at}
use Rattle.net_model.specs.Order.{IsOrder, position_of}
use Rattle.net_model.specs.Widths.{WhenFits}
use Rattle.bank_view.specs.declared.slot.Slot.{Slot}
use Rattle.bank_view.specs.declared.slot.Slot.TheVariants.{Kept, MemoryWrite, BankWrite}
use Rattle.bank_view.specs.Banks.{bank_port, memory_port, others}
use Rattle.bank_view.specs.Keeping.{KeepsBanks}
use Rattle.bank_view.specs.Views.{access_end, access_nets, added_before, added_nets, added_to, bank_enable, bank_nets, before, count_for, enable_count, enable_nets, enable_number, is_bank_write, is_kept, is_memory_write, join_nets, memory_enable, memory_nets, net_number, nets_for, numbering_of, renamed, renamed_drivers, renamed_rows, slot_nets, slot_size, slots_of, view_of}
use Rattle.bank_view.proofs.Beside.{banks_of, beside_of}
use Rattle.bank_view.proofs.Clocks.{bank_fits, memory_fits}
use Rattle.bank_view.proofs.Lists.{Holds}
use Rattle.bank_view.proofs.Numbers.{added_few}
use Rattle.bank_view.proofs.Places.{Passed, access_length, bank_is, bank_slot, bank_there, before_within, enable_length, for_length, for_there, kept_is, kept_slot, memory_is, memory_slot, memory_there, number_within, slot_length}
use Rattle.bank_view.proofs.Sorted.{IsLow, ranked, sorted}

-- ---- places in lists

holds_within : {X : Type 0} (xs : List X) (at : ℕ) (ys : List X) (i : ℕ) → Holds xs at ys → i < length ys → at + i < length xs
holds_within xs at [] i h lt = absurd (omega arith)
holds_within xs at (y ∷ ys) zero h lt = omega (arith, slice_get_within xs at y h.0)
holds_within xs at (y ∷ ys) (suc i) h lt = omega (arith, holds_within xs (suc at) ys i h.1 (omega arith))

get_right : {X : Type 0} (xs ys : List X) (i : ℕ) → length xs ≤ i → slice_get (xs ++ ys) i ≡ slice_get ys (i - length xs)
get_right [] ys i h = let e : i ≡ i - 0 = omega arith in ap (slice_get ys) e
get_right (x ∷ xs) ys zero h = absurd (omega arith)
get_right (x ∷ xs) ys (suc i) h = let e : i - length xs ≡ suc i - suc (length xs) = omega arith in get_right xs ys i (omega arith) ∙ ap (slice_get ys) e

-- ---- ranks

-- that of the first net of a slot
abbrev pub slot_rank : List ℕ → Slot → ℕ
slot_rank order (Kept n name) = 4 * position_of order n
slot_rank order BankWrite = 4 * length order
slot_rank order MemoryWrite = 4 * length order + 3

-- that of each net of these slots
abbrev pub rank_from : Netlist → List ℕ → List Slot → ℕ → ℕ
rank_from d order [] j = 0
rank_from d order (slot ∷ slots) j =
    if nat_lt j (slot_size d slot) then slot_rank order slot + j else rank_from d order slots (j - slot_size d slot)

-- where the first slot is that passes a test, which tells its rank and its size
module _ (d : Netlist) (order : List ℕ) (test : Slot → Bool) (base size : ℕ) (is : (slot : Slot) → test slot ≡ true → (slot_rank order slot ≡ base) × (slot_size d slot ≡ size)) where
  rank_at : (slots : List Slot) (j k : ℕ) → Passed test slots → j ≡ before d test slots + k → k < size → rank_from d order slots j ≡ base + k
  rank_at [] j k h e lt = absurd h
  rank_at (slot ∷ slots) j k h e lt = by (λ i q f. rank_at slots i k q f lt) (test slot) refl
    where
      by : ((i : ℕ) → Passed test slots → i ≡ before d test slots + k → rank_from d order slots i ≡ base + k) → (b : Bool) → test slot ≡ b → rank_from d order (slot ∷ slots) j ≡ base + k
      by later true t =
          let z : before d test (slot ∷ slots) ≡ 0 = ap (λ b. cond b 0 (slot_size d slot + before d test slots)) t in
          let s = is slot t in
          ap (λ b. cond b (slot_rank order slot + j) (rank_from d order slots (j - slot_size d slot))) (lt-ltb j (slot_size d slot) (omega (arith, e, z, s.1, lt)))
          ∙ omega (arith, s.0, e, z)
      by later false t =
          let z : before d test (slot ∷ slots) ≡ slot_size d slot + before d test slots = ap (λ b. cond b 0 (slot_size d slot + before d test slots)) t in
          let rest : Passed test slots = elim h [ inl q ↦ absurd (cc) | inr q ↦ q ] in
          ap (λ b. cond b (slot_rank order slot + j) (rank_from d order slots (j - slot_size d slot))) (le-ltb j (slot_size d slot) (omega (arith, e, z)))
          ∙ later (j - slot_size d slot) rest (omega (arith, e, z))

module _ (d : Netlist) (order : List ℕ) (k : KeepsBanks d order) where
  abbrev rank : ℕ → ℕ
  rank j = rank_from d order (slots_of d) j

  -- a net of the view, of a rank below a bound
  abbrev Low : ℕ → ℕ → Type 0
  Low bound m = IsLow rank (view_of d) bound m

  abbrev p : ℕ → ℕ
  p n = net_number d (numbering_of d) n

  -- ---- what stands in each block

  memory_low : (i j bound : ℕ) → j ≡ (numbering_of d).memory + i → i < slot_size d MemoryWrite → 4 * length order + 3 + i < bound → Low bound j
  memory_low i j bound e lt below =
      let r = rank_at d order is_memory_write (4 * length order + 3) (slot_size d MemoryWrite) by (slots_of d) j i (memory_slot d) e lt in
      let w = holds_within (view_of d).nets (numbering_of d).memory (memory_nets d (numbering_of d)) i (memory_there d) (omega (arith, lt, slot_length d (numbering_of d) MemoryWrite)) in
      (omega (arith, w, e), omega (arith, r, below))
    where
      by : (slot : Slot) → is_memory_write slot ≡ true → (slot_rank order slot ≡ 4 * length order + 3) × (slot_size d slot ≡ slot_size d MemoryWrite)
      by slot t = let e = memory_is slot t in (ap (slot_rank order) e, ap (slot_size d) e)

  bank_low : (i j bound : ℕ) → j ≡ (numbering_of d).bank + i → i < 3 → 4 * length order + i < bound → Low bound j
  bank_low i j bound e lt below =
      let r = rank_at d order is_bank_write (4 * length order) 3 by (slots_of d) j i (bank_slot d) e lt in
      let w = holds_within (view_of d).nets (numbering_of d).bank (bank_nets d (numbering_of d)) i (bank_there d) lt in
      (omega (arith, w, e), omega (arith, r, below))
    where
      by : (slot : Slot) → is_bank_write slot ≡ true → (slot_rank order slot ≡ 4 * length order) × (slot_size d slot ≡ 3)
      by slot t = let e = bank_is slot t in (ap (slot_rank order) e, ap (slot_size d) e)

  own_low : (n : ℕ) (net : Net) → slice_get d.nets n ≡ Some net → (i j bound : ℕ) → j ≡ (numbering_of d).first n + i → i < count_for d (Some net) → 4 * position_of order n + i < bound → Low bound j
  own_low n net there i j bound e lt below =
      let r = rank_at d order (is_kept n) (4 * position_of order n) (count_for d (Some net)) by (slots_of d) j i (kept_slot d n (slice_get_within d.nets n net there)) e lt in
      let w = holds_within (view_of d).nets ((numbering_of d).first n) (nets_for d p ((numbering_of d).first n) (Some net)) i (for_there d n net there) (omega (arith, lt, for_length d p ((numbering_of d).first n) (Some net))) in
      (omega (arith, w, e), omega (arith, r, below))
    where
      by : (slot : Slot) → is_kept n slot ≡ true → (slot_rank order slot ≡ 4 * position_of order n) × (slot_size d slot ≡ count_for d (Some net))
      by slot t =
          let q = kept_is n slot t in
          (ap (slot_rank order) q.1, ap (slot_size d) q.1 ∙ ap (count_for d) there)

  -- the net of a net
  number_low : (a bound : ℕ) → a < length d.nets → 4 * position_of order a + 3 < bound → Low bound (p a)
  number_low a bound lt below = by (slice_get d.nets a) refl
    where
      by : (o : Option Net) → slice_get d.nets a ≡ o → Low bound (p a)
      by None e = absurd (none_within d.nets a lt e)
      by (Some net) e =
          let f : p a ≡ (numbering_of d).first a + added_to d net.gate = ap (λ (o : Option Net). (numbering_of d).first a + added_before d o) e in
          own_low a net e (added_to d net.gate) (p a) bound f (omega arith) (omega (arith, below, added_few d (Some net)))

  -- all nets of N stand before the writes
  early_low : (a bound : ℕ) → a < length d.nets → 4 * length order ≤ bound → Low bound (p a)
  early_low a bound lt le = number_low a bound lt (omega (arith, k.rules.ordered.places a lt, le))

  -- ---- what nets name

  -- the nets that these name are of lower ranks, the first of which has the rank r
  abbrev LowNets : ℕ → List Net → Type 0
  LowNets r [] = Unit {0}
  LowNets r (net ∷ nets) = AllByRecursion (Low r) (gate_nets net.gate) × LowNets (suc r) nets

  low_append : (xs ys : List Net) (r q : ℕ) → q ≡ r + length xs → LowNets r xs → LowNets q ys → LowNets r (xs ++ ys)
  low_append [] ys r q e h g = let same : q ≡ r = omega (arith, e) in subst (λ b. LowNets b ys) same g
  low_append (x ∷ xs) ys r q e h g = (h.0, low_append xs ys (suc r) q (omega (arith, e)) h.1 g)

  low_in : (xs : List Net) (r j : ℕ) (net : Net) → LowNets r xs → slice_get xs j ≡ Some net → AllByRecursion (Low (r + j)) (gate_nets net.gate)
  low_in [] r j net h e = absurd (cc)
  low_in (x ∷ xs) r zero net h e =
      let same : x ≡ net = cc in
      let q : r ≡ r + 0 = omega arith in
      subst (λ b. AllByRecursion (Low b) (gate_nets net.gate)) q (subst (λ (y : Net). AllByRecursion (Low r) (gate_nets y.gate)) same h.0)
  low_in (x ∷ xs) r (suc j) net h e =
      let q : suc r + j ≡ r + suc j = omega arith in
      subst (λ b. AllByRecursion (Low b) (gate_nets net.gate)) q (low_in xs (suc r) j net h.1 e)

  -- ---- the nets of the netlist

  rows_low : (bound : ℕ) (rows : List (ℕ × ℕ)) (rest : Option ℕ) → AllByRecursion (λ a. Low bound (p a)) (row_nets rows rest) → AllByRecursion (Low bound) (row_nets (renamed_rows p rows) (option_map p rest))
  rows_low bound [] None h = tt
  rows_low bound [] (Some rest) h = (h.0, tt)
  rows_low bound (row ∷ rows) rest h = (h.0, rows_low bound rows rest h.1)

  drivers_low : (bound : ℕ) (drivers : List (ℕ × ℕ)) → AllByRecursion (λ a. Low bound (p a)) (driver_nets drivers) → AllByRecursion (Low bound) (driver_nets (renamed_drivers p drivers))
  drivers_low bound [] h = tt
  drivers_low bound (driver ∷ drivers) h = (h.0, (h.1.0, drivers_low bound drivers h.1.1))

  -- an access, at places from `at` on
  access_low : (space : Space) (r name at addr : ℕ) → Low r addr → ((i j : ℕ) → j ≡ at + i → i < access_end space 1 → Low (suc (r + i)) j) → LowNets r (access_nets space d name at addr)
  access_low InMemory r name at addr low own = ((low, tt), tt)
  access_low InFile r name at addr low own =
      let one : Low (suc (suc r)) at = (let l = own 0 at (omega arith) (omega arith) in (l.0, omega (arith, l.1))) in
      let two : Low (suc (suc r)) (at + 1) = (let l = own 1 (at + 1) refl (omega arith) in (l.0, omega (arith, l.1))) in
      ((low, tt), (tt, ((one, (two, tt)), tt)))

  last_low : (space : Space) (r at : ℕ) → ((i j : ℕ) → j ≡ at + i → i < access_end space 1 → Low (suc (r + i)) j) → Low (r + access_end space 1) (access_end space at)
  last_low InMemory r at own = (let l = own 0 at (omega arith) (omega arith) in (l.0, omega (arith, l.1)))
  last_low InFile r at own = (let l = own 2 (at + 2) refl (omega arith) in (l.0, omega (arith, l.1)))

  gate_low : (n : ℕ) (net : Net) → slice_get d.nets n ≡ Some net → (gate : Gate) → net.gate ≡ gate → AllByRecursion (λ a. Low (4 * position_of order n) (p a)) (gate_nets gate) → LowNets (4 * position_of order n) (added_nets d p net.name_at ((numbering_of d).first n) gate ++ record net { gate = renamed d p ((numbering_of d).first n) gate } ∷ [])
  gate_low n net there (Read memory addr) g h =
      low_append (access_nets (space_at d memory) d net.name_at ((numbering_of d).first n) (p addr))
      (record net { gate = renamed d p ((numbering_of d).first n) (Read memory addr) } ∷ []) (4 * position_of order n) (4 * position_of order n + access_end (space_at d memory) 1)
      (ap (λ m. 4 * position_of order n + m) (sym (access_length (space_at d memory) d net.name_at ((numbering_of d).first n) (p addr))))
      (access_low (space_at d memory) (4 * position_of order n) net.name_at ((numbering_of d).first n) (p addr) h.0 own)
      ((last_low (space_at d memory) (4 * position_of order n) ((numbering_of d).first n) own, tt), tt)
    where
      own : (i j : ℕ) → j ≡ (numbering_of d).first n + i → i < access_end (space_at d memory) 1 → Low (suc (4 * position_of order n + i)) j
      own i j e lt =
          let size : added_to d net.gate ≡ access_end (space_at d memory) 1 = ap (added_to d) g in
          own_low n net there i j (suc (4 * position_of order n + i)) e (omega (arith, size, lt)) (omega arith)
  gate_low n net there (Word code) g h = (tt, tt)
  gate_low n net there (Reg id) g h = (tt, tt)
  gate_low n net there (Const c) g h = (tt, tt)
  gate_low n net there (Wire a) g h = (h, tt)
  gate_low n net there (Un op a) g h = (h, tt)
  gate_low n net there (Bin op a b) g h = (h, tt)
  gate_low n net there (Slice of hi lo) g h = (h, tt)
  gate_low n net there (Cat a b) g h = (h, tt)
  gate_low n net there (Zext a) g h = (h, tt)
  gate_low n net there (Sext a) g h = (h, tt)
  gate_low n net there (Case sel rows rest) g h = ((h.0, rows_low (4 * position_of order n) rows rest h.1), tt)
  gate_low n net there (Bus drivers) g h = (drivers_low (4 * position_of order n) drivers h, tt)

  -- ---- the writes

  -- an enable, whose constant stands before a place in the memory's block
  enable_low : (at off until bound : ℕ) (when : Option ℕ) → WhenFits d when → at ≡ (numbering_of d).memory + off → off + enable_count when ≤ until → until ≤ slot_size d MemoryWrite → 4 * length order + 3 + until ≤ bound → Low bound (enable_number p at when)
  enable_low at off until bound None f e le room below = memory_low off at bound e (omega (arith, le, room)) (omega (arith, le, below))
  enable_low at off until bound (Some when) f e le room below = early_low when bound f.0 (omega (arith, below))

  enables_low : (name r : ℕ) (when : Option ℕ) → LowNets r (enable_nets name when)
  enables_low name r None = (tt, tt)
  enables_low name r (Some when) = tt

  -- the number of the first net that joins the writes, from the memory's first one on
  abbrev seam : ℕ
  seam = 1 + enable_count (memory_port d).when + enable_count (bank_port d).when

  when_low : (bound : ℕ) → 4 * length order + 3 + seam ≤ bound → Low bound (memory_enable d (numbering_of d))
  when_low bound below =
      enable_low ((numbering_of d).memory + 1) 1 seam bound (memory_port d).when
      (memory_fits d (beside_of d (banks_of d order k)) k.rules.formed.storages).when
      refl (omega arith) (omega arith) below

  bank_when_low : (bound : ℕ) → 4 * length order + 3 + seam ≤ bound → Low bound (bank_enable d (numbering_of d))
  bank_when_low bound below =
      enable_low ((numbering_of d).memory + 1 + enable_count (memory_port d).when) (1 + enable_count (memory_port d).when) seam bound (bank_port d).when
      (bank_fits d (beside_of d (banks_of d order k)) k.rules.formed.storages).when
      (omega arith) (omega arith) (omega arith) below

  join_low : LowNets (4 * length order + 3 + seam) (join_nets d (numbering_of d))
  join_low =
      let memory = memory_fits d (beside_of d (banks_of d order k)) k.rules.formed.storages in
      let bank = bank_fits d (beside_of d (banks_of d order k)) k.rules.formed.storages in (
        (
          early_low (memory_port d).value (4 * length order + 3 + seam) memory.value.0 (omega arith),
          (
            when_low (4 * length order + 3 + seam) (omega arith),
            (
              early_low (bank_port d).value (4 * length order + 3 + seam) bank.value.0 (omega arith),
              (bank_when_low (4 * length order + 3 + seam) (omega arith), tt),
            ),
          ),
        ),
        (
          (
            memory_low 0 (numbering_of d).memory (suc (4 * length order + 3 + seam)) (omega arith) (omega arith) (omega arith),
            (
              when_low (suc (4 * length order + 3 + seam)) (omega arith),
              (
                bank_low 2 ((numbering_of d).bank + 2) (suc (4 * length order + 3 + seam)) refl (omega arith) (omega arith),
                (bank_when_low (suc (4 * length order + 3 + seam)) (omega arith), tt),
              ),
            ),
          ),
          ((when_low (suc (suc (4 * length order + 3 + seam))) (omega arith), (bank_when_low (suc (suc (4 * length order + 3 + seam))) (omega arith), tt)), tt),
        ),
      )

  slot_low : (slot : Slot) → LowNets (slot_rank order slot) (slot_nets d (numbering_of d) slot)
  slot_low BankWrite =
      let bank = bank_fits d (beside_of d (banks_of d order k)) k.rules.formed.storages in
      access_low InFile (4 * length order) (bank_port d).name_at (numbering_of d).bank (p (bank_port d).addr)
      (early_low (bank_port d).addr (4 * length order) bank.addr.0 (omega arith))
      (λ i j e lt. bank_low i j (suc (4 * length order + i)) e lt (omega arith))
  slot_low MemoryWrite =
      let memory = memory_fits d (beside_of d (banks_of d order k)) k.rules.formed.storages in (
        (early_low (memory_port d).addr (4 * length order + 3) memory.addr.0 (omega arith), tt),
        low_append (enable_nets (memory_port d).name_at (memory_port d).when) (enable_nets (memory_port d).name_at (bank_port d).when ++ join_nets d (numbering_of d))
            (suc (4 * length order + 3)) (suc (4 * length order + 3) + enable_count (memory_port d).when)
            (ap (λ n. suc (4 * length order + 3) + n) (sym (enable_length (memory_port d).name_at (memory_port d).when)))
            (enables_low (memory_port d).name_at (suc (4 * length order + 3)) (memory_port d).when)
            (low_append (enable_nets (memory_port d).name_at (bank_port d).when) (join_nets d (numbering_of d))
            (suc (4 * length order + 3) + enable_count (memory_port d).when) (4 * length order + 3 + seam)
            (omega (arith, enable_length (memory_port d).name_at (bank_port d).when))
            (enables_low (memory_port d).name_at (suc (4 * length order + 3) + enable_count (memory_port d).when) (bank_port d).when) join_low),
      )
  slot_low (Kept n name) = by (slice_get d.nets n) refl
    where
      by : (o : Option Net) → slice_get d.nets n ≡ o → LowNets (4 * position_of order n) (nets_for d p ((numbering_of d).first n) o)
      by None e = tt
      by (Some net) e =
          gate_low n net e net.gate refl
          (all_weaker (λ a. position_of order a < position_of order n) (λ a. Low (4 * position_of order n) (p a))
          (λ a q. number_low a (4 * position_of order n) (before_within d order k.rules.ordered n a (slice_get_within d.nets n net e) q) (omega (arith, q)))
          (gate_nets net.gate)
          (subst (λ (o : Option Net). AllByRecursion (λ a. position_of order a < position_of order n) (nets_of o)) e (k.rules.ordered.falls n)))

  -- each net of the view names nets of lower ranks
  low_at : (slots : List Slot) (j : ℕ) (net : Net) → slice_get (flat_map (slot_nets d (numbering_of d)) slots) j ≡ Some net → AllByRecursion (Low (rank_from d order slots j)) (gate_nets net.gate)
  low_at [] j net e = absurd (cc)
  low_at (slot ∷ slots) j net e =
      let size : length (slot_nets d (numbering_of d) slot) ≡ slot_size d slot = slot_length d (numbering_of d) slot in
      elim (cases_lt j (slot_size d slot)) as (λ _. AllByRecursion (Low (rank_from d order (slot ∷ slots) j)) (gate_nets net.gate)) [
        | inl lt ↦
            let here : slice_get (slot_nets d (numbering_of d) slot) j ≡ Some net =
            sym (get_left (slot_nets d (numbering_of d) slot) (flat_map (slot_nets d (numbering_of d)) slots) j (omega (arith, lt, size))) ∙ e in
            subst (λ b. AllByRecursion (Low (cond b (slot_rank order slot + j) (rank_from d order slots (j - slot_size d slot)))) (gate_nets net.gate))
            (sym (lt-ltb j (slot_size d slot) lt))
            (low_in (slot_nets d (numbering_of d) slot) (slot_rank order slot) j net (slot_low slot) here)
        | inr ge ↦
            let there : slice_get (flat_map (slot_nets d (numbering_of d)) slots) (j - slot_size d slot) ≡ Some net =
            ap (λ n. slice_get (flat_map (slot_nets d (numbering_of d)) slots) (j - n)) (sym size)
            ∙ sym (get_right (slot_nets d (numbering_of d) slot) (flat_map (slot_nets d (numbering_of d)) slots) j (omega (arith, ge, size))) ∙ e in
            subst (λ b. AllByRecursion (Low (cond b (slot_rank order slot + j) (rank_from d order slots (j - slot_size d slot)))) (gate_nets net.gate))
            (sym (le-ltb j (slot_size d slot) ge))
            (low_at slots (j - slot_size d slot) net there)
      ]

  pub view_ordered : IsOrder (view_of d) (sorted rank (length (view_of d).nets))
  view_ordered = ranked rank (view_of d) (λ n net e. low_at (slots_of d) n net e)
