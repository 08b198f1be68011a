-- Where the nets of a view stand.
use Rattle.std.proofs.Common.{◌≡◌, ℕ, zero, suc, ◌+◌, ◌-◌, ◌<◌, ◌≤◌, ◌==◌, Bool, true, false, cond, List, [], ◌∷◌, ◌++◌, length, map, slice_get, Option, Some, None, refl, ap, sym, ◌∙◌, subst, arith, inl, inr, ◌⊎◌, nat_lt, eqb-true, eq-eqb}
use Rattle.std.specs.List.{remove, flat_map, AllByRecursion}
use Rattle.std.proofs.lemmas.Option.{slice_get_cases, slice_get_within}
use Rattle.net_model.specs.declared.hardware.Net.{Net}
use Rattle.net_model.specs.declared.hardware.Gate.{Gate}
use Rattle.net_model.specs.declared.hardware.Gate.TheVariants.{Word, Reg, Read, Const, Wire, Un, Bin, Slice, Cat, Zext, Sext, Case, Bus}
use Rattle.net_model.specs.Nets.{net_width, space_at, width_at}
use Rattle.net_model.specs.declared.hardware.Netlist.{Netlist}
use Rattle.net_model.specs.Widths.{HasWidth}
use Rattle.net_model.specs.Order.{IsOrder, position_of}
use Rattle.net_model.proofs.Orders.{at_place}
use Rattle.rec_bits.proofs.Lists.{all_append}
use Rattle.bank_view.specs.declared.slot.Slot.{Slot}
use Rattle.bank_view.specs.declared.slot.Slot.TheVariants.{Kept, MemoryWrite, BankWrite}
use Rattle.net_model.specs.declared.hardware.Space.{Space}
use Rattle.net_model.specs.declared.hardware.Space.TheVariants.{Memory as InMemory, File as InFile}
use Rattle.bank_view.specs.Banks.{memory_port, bank_port}
use Rattle.bank_view.specs.Views.{Numbering, access_nets, access_end, added_to, added_before, count_for, net_number, renamed, added_nets, nets_for, enable_nets, enable_count, memory_nets, bank_nets, join_nets, join_number, slot_at, kept_from, insert_slot, slots_of, slot_nets, slot_size, before, is_kept, is_memory_write, is_bank_write, numbering_of, view_of}
use Rattle.bank_view.proofs.Lists.{Holds, all_flat, holds_here, holds_past, holds_front, holds_rest}
use Rattle.std.proofs.lemmas.List.{length-append}

-- ---- sizes

pub access_length : (space : Space) (d : Netlist) (name at addr : ℕ) → length (access_nets space d name at addr) ≡ access_end space 1
access_length InMemory d name at addr = refl
access_length InFile d name at addr = refl

pub added_length : (d : Netlist) (p : ℕ → ℕ) (name at : ℕ) (gate : Gate) → length (added_nets d p name at gate) ≡ added_to d gate
added_length d p name at (Read memory addr) = access_length (space_at d memory) d name at (p addr)
added_length d p name at (Word code) = refl
added_length d p name at (Reg id) = refl
added_length d p name at (Const c) = refl
added_length d p name at (Wire a) = refl
added_length d p name at (Un op a) = refl
added_length d p name at (Bin op a b) = refl
added_length d p name at (Slice of hi lo) = refl
added_length d p name at (Cat a b) = refl
added_length d p name at (Zext a) = refl
added_length d p name at (Sext a) = refl
added_length d p name at (Case sel rows rest) = refl
added_length d p name at (Bus drivers) = refl

pub enable_length : (name : ℕ) (when : Option ℕ) → length (enable_nets name when) ≡ enable_count when
enable_length name None = refl
enable_length name (Some when) = refl

pub for_length : (d : Netlist) (p : ℕ → ℕ) (at : ℕ) (net : Option Net) → length (nets_for d p at net) ≡ count_for d net
for_length d p at None = refl
for_length d p at (Some net) =
    length-append (added_nets d p net.name_at at net.gate) (record net { gate = renamed d p at net.gate } ∷ [])
    ∙ ap (λ n. n + 1) (added_length d p net.name_at at net.gate)

pub slot_length : (d : Netlist) (m : Numbering) (slot : Slot) → length (slot_nets d m slot) ≡ slot_size d slot
slot_length d m (Kept n name) = for_length d (net_number d m) (m.first n) (slice_get d.nets n)
slot_length d m BankWrite = refl
slot_length d m MemoryWrite =
    simp length-append (omega (arith, enable_length (memory_port d).name_at (memory_port d).when, enable_length (memory_port d).name_at (bank_port d).when))

-- ---- slots by a test

-- one of them passes
abbrev pub Passed : (Slot → Bool) → List Slot → Type 0
Passed test [] = ⊥
Passed test (slot ∷ slots) = (test slot ≡ true) ⊎ Passed test slots

-- the first one that passes, and its nets
pub record Found (d : Netlist) (m : Numbering) (test : Slot → Bool) (slots : List Slot) : Type 0 where
  pub slot : Slot
  pub passes : test slot ≡ true
  pub there : Holds (flat_map (slot_nets d m) slots) (before d test slots) (slot_nets d m slot)

pub found : (d : Netlist) (m : Numbering) (test : Slot → Bool) (slots : List Slot) → Passed test slots → Found d m test slots
found d m test [] h = absurd h
found d m test (slot ∷ slots) h = by (λ q. found d m test slots q) (test slot) refl
  where
    by : (Passed test slots → Found d m test slots) → (b : Bool) → test slot ≡ b → Found d m test (slot ∷ slots)
    by later true e = record {
      slot = slot;
      passes = e;
      there = subst (λ k. Holds (slot_nets d m slot ++ flat_map (slot_nets d m) slots) k (slot_nets d m slot))
          (sym (ap (λ b. cond b 0 (slot_size d slot + before d test slots)) e))
          (holds_here (slot_nets d m slot) (flat_map (slot_nets d m) slots));
    }
    by later false e =
        let h' : Passed test slots = elim h [ inl q ↦ absurd (cc) | inr q ↦ q ] in
        let r = later h' in
        record {
          slot = r.slot;
          passes = r.passes;
          there = subst (λ k. Holds (slot_nets d m slot ++ flat_map (slot_nets d m) slots) k (slot_nets d m r.slot))
              (sym (ap (λ b. cond b 0 (slot_size d slot + before d test slots)) e))
              (holds_past (slot_nets d m slot) (flat_map (slot_nets d m) slots) _ (before d test slots) (slot_nets d m r.slot)
              (ap (λ n. n + before d test slots) (sym (slot_length d m slot))) r.there);
        }

-- ---- which slots there are

insert_keeps : (d : Netlist) (test : Slot → Bool) (slot : Slot) (slots : List Slot) → Passed test slots → Passed test (insert_slot d slot slots)
insert_keeps d test slot [] h = absurd h
insert_keeps d test slot (x ∷ slots) h = by (λ q. insert_keeps d test slot slots q) (nat_lt (slot_at d slot) (slot_at d x))
  where
    by : (Passed test slots → Passed test (insert_slot d slot slots)) → (b : Bool) → Passed test (cond b (slot ∷ x ∷ slots) (x ∷ insert_slot d slot slots))
    by later true = inr h
    by later false = elim h [ inl q ↦ inl q | inr q ↦ inr (later q) ]

inserted : (d : Netlist) (test : Slot → Bool) (slot : Slot) (slots : List Slot) → test slot ≡ true → Passed test (insert_slot d slot slots)
inserted d test slot [] e = inl e
inserted d test slot (x ∷ slots) e = by (inserted d test slot slots e) (nat_lt (slot_at d slot) (slot_at d x))
  where
    by : Passed test (insert_slot d slot slots) → (b : Bool) → Passed test (cond b (slot ∷ x ∷ slots) (x ∷ insert_slot d slot slots))
    by later true = inl e
    by later false = inr later

kept_passes : (nets : List Net) (from n i : ℕ) → i < length nets → from + i ≡ n → Passed (is_kept n) (kept_from from nets)
kept_passes [] from n i h e = absurd (omega arith)
kept_passes (net ∷ nets) from n zero h e = inl (eq-eqb from n (omega arith))
kept_passes (net ∷ nets) from n (suc i) h e = inr (kept_passes nets (from + 1) n i (omega arith) (omega arith))

pub kept_is : (n : ℕ) (slot : Slot) → is_kept n slot ≡ true → (name : ℕ) × (slot ≡ Kept n name)
kept_is n (Kept i name) e = (name, ap (λ k. Kept k name) (eqb-true i n e))
kept_is n MemoryWrite e = absurd (cc)
kept_is n BankWrite e = absurd (cc)

pub memory_is : (slot : Slot) → is_memory_write slot ≡ true → slot ≡ MemoryWrite
memory_is (Kept i name) e = absurd (cc)
memory_is MemoryWrite e = refl
memory_is BankWrite e = absurd (cc)

pub bank_is : (slot : Slot) → is_bank_write slot ≡ true → slot ≡ BankWrite
bank_is (Kept i name) e = absurd (cc)
bank_is MemoryWrite e = absurd (cc)
bank_is BankWrite e = refl

-- ---- what stands where

module _ (d : Netlist) where
  pub kept_slot : (n : ℕ) → n < length d.nets → Passed (is_kept n) (slots_of d)
  kept_slot n lt =
      insert_keeps d (is_kept n) MemoryWrite (insert_slot d BankWrite (kept_from 0 d.nets))
      (insert_keeps d (is_kept n) BankWrite (kept_from 0 d.nets) (kept_passes d.nets 0 n n lt (omega arith)))

  pub memory_slot : Passed is_memory_write (slots_of d)
  memory_slot = inserted d is_memory_write MemoryWrite (insert_slot d BankWrite (kept_from 0 d.nets)) refl

  pub bank_slot : Passed is_bank_write (slots_of d)
  bank_slot =
      insert_keeps d is_bank_write MemoryWrite (insert_slot d BankWrite (kept_from 0 d.nets))
      (inserted d is_bank_write BankWrite (kept_from 0 d.nets) refl)

  pub for_there : (n : ℕ) (net : Net) → slice_get d.nets n ≡ Some net → Holds (view_of d).nets ((numbering_of d).first n) (nets_for d (net_number d (numbering_of d)) ((numbering_of d).first n) (Some net))
  for_there n net e =
      let r = found d (numbering_of d) (is_kept n) (slots_of d) (kept_slot n (slice_get_within d.nets n net e)) in
      let k = kept_is n r.slot r.passes in
      let h = subst (λ (slot : Slot). Holds (view_of d).nets ((numbering_of d).first n) (slot_nets d (numbering_of d) slot)) k.1 r.there in
      subst (λ (o : Option Net). Holds (view_of d).nets ((numbering_of d).first n) (nets_for d (net_number d (numbering_of d)) ((numbering_of d).first n) o)) e h

  pub memory_there : Holds (view_of d).nets (numbering_of d).memory (memory_nets d (numbering_of d))
  memory_there =
      let r = found d (numbering_of d) is_memory_write (slots_of d) memory_slot in
      subst (λ (slot : Slot). Holds (view_of d).nets (numbering_of d).memory (slot_nets d (numbering_of d) slot)) (memory_is r.slot r.passes) r.there

  pub bank_there : Holds (view_of d).nets (numbering_of d).bank (bank_nets d (numbering_of d))
  bank_there =
      let r = found d (numbering_of d) is_bank_write (slots_of d) bank_slot in
      subst (λ (slot : Slot). Holds (view_of d).nets (numbering_of d).bank (slot_nets d (numbering_of d) slot)) (bank_is r.slot r.passes) r.there

  -- the nets that are added for a net, and the net itself
  pub added_there : (n : ℕ) (net : Net) → slice_get d.nets n ≡ Some net → Holds (view_of d).nets ((numbering_of d).first n) (added_nets d (net_number d (numbering_of d)) net.name_at ((numbering_of d).first n) net.gate)
  added_there n net e = holds_front (view_of d).nets ((numbering_of d).first n) _ _ (for_there n net e)

  pub net_there : (n : ℕ) (net : Net) → slice_get d.nets n ≡ Some net → slice_get (view_of d).nets (net_number d (numbering_of d) n) ≡ Some (record net { gate = renamed d (net_number d (numbering_of d)) ((numbering_of d).first n) net.gate })
  net_there n net e =
      let first : ℕ = (numbering_of d).first n in
      (holds_rest (view_of d).nets (net_number d (numbering_of d) n) first
      (added_nets d (net_number d (numbering_of d)) net.name_at first net.gate)
      (record net { gate = renamed d (net_number d (numbering_of d)) first net.gate } ∷ [])
      (ap (λ (o : Option Net). first + added_before d o) e ∙ ap (λ k. first + k) (sym (added_length d (net_number d (numbering_of d)) net.name_at first net.gate)))
      (for_there n net e)).0

-- ---- where what joins the writes stands

module _ (d : Netlist) where
  pub memory_access_there : Holds (view_of d).nets (numbering_of d).memory (access_nets InMemory d (memory_port d).name_at (numbering_of d).memory (net_number d (numbering_of d) (memory_port d).addr))
  memory_access_there =
      holds_front (view_of d).nets (numbering_of d).memory
      (access_nets InMemory d (memory_port d).name_at (numbering_of d).memory (net_number d (numbering_of d) (memory_port d).addr))
      (enable_nets (memory_port d).name_at (memory_port d).when ++ (enable_nets (memory_port d).name_at (bank_port d).when ++ join_nets d (numbering_of d)))
      (memory_there d)

  enables_there : Holds (view_of d).nets ((numbering_of d).memory + 1) (enable_nets (memory_port d).name_at (memory_port d).when ++ (enable_nets (memory_port d).name_at (bank_port d).when ++ join_nets d (numbering_of d)))
  enables_there =
      holds_rest (view_of d).nets ((numbering_of d).memory + 1) (numbering_of d).memory
      (access_nets InMemory d (memory_port d).name_at (numbering_of d).memory (net_number d (numbering_of d) (memory_port d).addr))
      (enable_nets (memory_port d).name_at (memory_port d).when ++ (enable_nets (memory_port d).name_at (bank_port d).when ++ join_nets d (numbering_of d)))
      refl (memory_there d)

  pub memory_enable_there : Holds (view_of d).nets ((numbering_of d).memory + 1) (enable_nets (memory_port d).name_at (memory_port d).when)
  memory_enable_there =
      holds_front (view_of d).nets ((numbering_of d).memory + 1) (enable_nets (memory_port d).name_at (memory_port d).when)
      (enable_nets (memory_port d).name_at (bank_port d).when ++ join_nets d (numbering_of d)) enables_there

  seconds_there : Holds (view_of d).nets ((numbering_of d).memory + 1 + enable_count (memory_port d).when) (enable_nets (memory_port d).name_at (bank_port d).when ++ join_nets d (numbering_of d))
  seconds_there =
      holds_rest (view_of d).nets ((numbering_of d).memory + 1 + enable_count (memory_port d).when) ((numbering_of d).memory + 1)
      (enable_nets (memory_port d).name_at (memory_port d).when) (enable_nets (memory_port d).name_at (bank_port d).when ++ join_nets d (numbering_of d))
      (ap (λ n. (numbering_of d).memory + 1 + n) (sym (enable_length (memory_port d).name_at (memory_port d).when))) enables_there

  pub bank_enable_there : Holds (view_of d).nets ((numbering_of d).memory + 1 + enable_count (memory_port d).when) (enable_nets (memory_port d).name_at (bank_port d).when)
  bank_enable_there =
      holds_front (view_of d).nets ((numbering_of d).memory + 1 + enable_count (memory_port d).when)
      (enable_nets (memory_port d).name_at (bank_port d).when) (join_nets d (numbering_of d)) seconds_there

  pub join_there : Holds (view_of d).nets (join_number d (numbering_of d)) (join_nets d (numbering_of d))
  join_there =
      holds_rest (view_of d).nets (join_number d (numbering_of d)) ((numbering_of d).memory + 1 + enable_count (memory_port d).when)
      (enable_nets (memory_port d).name_at (bank_port d).when) (join_nets d (numbering_of d))
      (ap (λ n. (numbering_of d).memory + 1 + enable_count (memory_port d).when + n) (sym (enable_length (memory_port d).name_at (bank_port d).when))) seconds_there

-- ---- nets by their places

module _ (d : Netlist) where
  -- a net that stands in the view
  pub standing : (n : ℕ) (net : Net) → slice_get (view_of d).nets n ≡ Some net → HasWidth (view_of d) n net.width
  standing n net e = (slice_get_within (view_of d).nets n net e, ap net_width e)

  -- a net of the netlist has its width there
  pub number_wide : (n width : ℕ) → HasWidth d n width → HasWidth (view_of d) (net_number d (numbering_of d) n) width
  number_wide n width h =
      elim (slice_get_cases d.nets n).1 as (λ _. HasWidth (view_of d) (net_number d (numbering_of d) n) width) [
        | inl c ↦
            let w = standing (net_number d (numbering_of d) n) _ (net_there d n c.0 c.2) in
            (w.0, w.1 ∙ sym (ap net_width c.2) ∙ h.1)
        | inr c ↦ absurd (omega (arith, c.0, h.0))
      ]

  pub view_width : (n : ℕ) → n < length d.nets → width_at (view_of d) (net_number d (numbering_of d) n) ≡ width_at d n
  view_width n lt = (number_wide n (width_at d n) (lt, refl)).1

  pub number_within : (n : ℕ) → n < length d.nets → net_number d (numbering_of d) n < length (view_of d).nets
  number_within n lt = (number_wide n (width_at d n) (lt, refl)).0

-- ---- what holds of all nets of the view

module _ (d : Netlist) (P : Net → Type 0) (access : (space : Space) (name at addr : ℕ) → AllByRecursion P (access_nets space d name at addr)) (enable : (name : ℕ) (when : Option ℕ) → AllByRecursion P (enable_nets name when)) (join : AllByRecursion P (join_nets d (numbering_of d))) (own : (n : ℕ) (net : Net) → slice_get d.nets n ≡ Some net → P (record net { gate = renamed d (net_number d (numbering_of d)) ((numbering_of d).first n) net.gate })) where
  all_added : (name at : ℕ) (gate : Gate) → AllByRecursion P (added_nets d (net_number d (numbering_of d)) name at gate)
  all_added name at (Read memory addr) = access (space_at d memory) name at (net_number d (numbering_of d) addr)
  all_added name at (Word code) = tt
  all_added name at (Reg id) = tt
  all_added name at (Const c) = tt
  all_added name at (Wire a) = tt
  all_added name at (Un op a) = tt
  all_added name at (Bin op a b) = tt
  all_added name at (Slice of hi lo) = tt
  all_added name at (Cat a b) = tt
  all_added name at (Zext a) = tt
  all_added name at (Sext a) = tt
  all_added name at (Case sel rows rest) = tt
  all_added name at (Bus drivers) = tt

  all_for : (n : ℕ) (o : Option Net) → slice_get d.nets n ≡ o → AllByRecursion P (nets_for d (net_number d (numbering_of d)) ((numbering_of d).first n) o)
  all_for n None e = tt
  all_for n (Some net) e =
      all_append P (added_nets d (net_number d (numbering_of d)) net.name_at ((numbering_of d).first n) net.gate)
      (record net { gate = renamed d (net_number d (numbering_of d)) ((numbering_of d).first n) net.gate } ∷ [])
      (all_added net.name_at ((numbering_of d).first n) net.gate) (own n net e, tt)

  all_slot : (slot : Slot) → AllByRecursion P (slot_nets d (numbering_of d) slot)
  all_slot (Kept n name) = all_for n (slice_get d.nets n) refl
  all_slot BankWrite = access InFile (bank_port d).name_at (numbering_of d).bank (net_number d (numbering_of d) (bank_port d).addr)
  all_slot MemoryWrite =
      all_append P (access_nets InMemory d (memory_port d).name_at (numbering_of d).memory (net_number d (numbering_of d) (memory_port d).addr))
      (enable_nets (memory_port d).name_at (memory_port d).when ++ (enable_nets (memory_port d).name_at (bank_port d).when ++ join_nets d (numbering_of d)))
      (access InMemory (memory_port d).name_at (numbering_of d).memory (net_number d (numbering_of d) (memory_port d).addr))
      (all_append P (enable_nets (memory_port d).name_at (memory_port d).when) (enable_nets (memory_port d).name_at (bank_port d).when ++ join_nets d (numbering_of d))
      (enable (memory_port d).name_at (memory_port d).when)
      (all_append P (enable_nets (memory_port d).name_at (bank_port d).when) (join_nets d (numbering_of d))
      (enable (memory_port d).name_at (bank_port d).when) join))

  pub all_view : AllByRecursion P (view_of d).nets
  all_view = all_flat P (slot_nets d (numbering_of d)) all_slot (slots_of d)

-- ---- orders

-- a net before others in an order is there
pub before_within : (netlist : Netlist) (order : List ℕ) → IsOrder netlist order → (n m : ℕ) → n < length netlist.nets → position_of order m < position_of order n → m < length netlist.nets
before_within netlist order o n m lt before =
    let p : position_of order m < length order = omega (arith, before, o.places n lt) in
    subst (λ i. i < length netlist.nets) (at_place order m p) (o.nets (position_of order m) p)
