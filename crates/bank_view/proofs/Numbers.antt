-- The numbers in a view are those that the code finds.
use Rattle.std.proofs.Common.{◌≡◌, ℕ, zero, suc, ◌+◌, ◌-◌, ◌*◌, ◌<◌, ◌≤◌, ◌==◌, Bool, true, false, cond, List, [], ◌∷◌, ◌++◌, length, map, option_map, slice_get, Option, Some, None, refl, ap, sym, ◌∙◌, subst, arith, nat_lt, eq-eqb}
use mathlib.Core.Path.{fun_ext}
use Rattle.std.specs.List.{remove, flat_map}
use Rattle.std.proofs.lemmas.Bool.{ne_eqb}
use Rattle.std.proofs.lemmas.Option.{slice_get_past}
use Rattle.net_model.specs.declared.hardware.Code.{Code}
use Rattle.net_model.specs.declared.hardware.Net.{Net}
use Rattle.net_model.specs.declared.hardware.Netlist.{Netlist}
use Rattle.net_model.specs.declared.hardware.Gate.{Gate}
use Rattle.net_model.specs.declared.hardware.Gate.TheVariants.{Word, Reg, Read, Const, Wire, Un, Bin, Slice, Cat, Zext, Sext, Case, Bus}
use Rattle.net_model.specs.declared.hardware.Space.{Space}
use Rattle.net_model.specs.declared.hardware.Space.TheVariants.{Memory as InMemory, File as InFile}
use Rattle.net_model.specs.declared.hardware.Storage.{Storage}
use Rattle.net_model.specs.Nets.{memory_id, space_at}
use Rattle.bank_view.specs.declared.slot.Slot.{Slot}
use Rattle.bank_view.specs.declared.slot.Slot.TheVariants.{Kept, MemoryWrite, BankWrite}
use Rattle.bank_view.specs.declared.views.Numbers.{Numbers}
use Rattle.bank_view.specs.Banks.{bank_place, bank_port, memory_port, others}
use Rattle.bank_view.specs.Views.{access_end, added_before, added_to, bank_enable, before, count_for, enable_count, enable_number, insert_slot, is_bank_write, is_kept, is_memory_write, joined, kept_from, memory_enable, net_number, numbering_of, renamed, renamed_code, slot_at, slot_nets, slot_size, slots_of, view_edition, view_of}
use Rattle.bank_view.specs.Inner.Numbers.{AreNumbers, joined_from, number_from, number_in, numbers_from, total}

-- ---- numbers of nets

-- the nets of these slots are those from a number on, in order and to the last
abbrev InOrder : Netlist → ℕ → List Slot → Type 0
InOrder d k [] = length d.nets ≤ k
InOrder d k (Kept n name ∷ slots) = (n ≡ k) × InOrder d (suc k) slots
InOrder d k (MemoryWrite ∷ slots) = InOrder d k slots
InOrder d k (BankWrite ∷ slots) = InOrder d k slots

kept_in_order : (d : Netlist) (k : ℕ) (nets : List Net) → length d.nets ≤ k + length nets → InOrder d k (kept_from k nets)
kept_in_order d k [] h = omega arith
kept_in_order d k (net ∷ nets) h =
    let e : k + 1 ≡ suc k = omega arith in
    (refl, subst (λ j. InOrder d (suc k) (kept_from j nets)) (sym e) (kept_in_order d (suc k) nets (omega arith)))

memory_in_order : (d : Netlist) (k : ℕ) (slots : List Slot) → InOrder d k slots → InOrder d k (insert_slot d MemoryWrite slots)
memory_in_order d k [] h = h
memory_in_order d k (Kept n name ∷ slots) h = by (nat_lt (slot_at d MemoryWrite) name) (memory_in_order d (suc k) slots h.1)
  where
    by : (b : Bool) → InOrder d (suc k) (insert_slot d MemoryWrite slots) → InOrder d k (cond b (MemoryWrite ∷ Kept n name ∷ slots) (Kept n name ∷ insert_slot d MemoryWrite slots))
    by true later = h
    by false later = (h.0, later)
memory_in_order d k (MemoryWrite ∷ slots) h = by (nat_lt (slot_at d MemoryWrite) (slot_at d MemoryWrite)) (memory_in_order d k slots h)
  where
    by : (b : Bool) → InOrder d k (insert_slot d MemoryWrite slots) → InOrder d k (cond b (MemoryWrite ∷ MemoryWrite ∷ slots) (MemoryWrite ∷ insert_slot d MemoryWrite slots))
    by true later = h
    by false later = later
memory_in_order d k (BankWrite ∷ slots) h = by (nat_lt (slot_at d MemoryWrite) (slot_at d BankWrite)) (memory_in_order d k slots h)
  where
    by : (b : Bool) → InOrder d k (insert_slot d MemoryWrite slots) → InOrder d k (cond b (MemoryWrite ∷ BankWrite ∷ slots) (BankWrite ∷ insert_slot d MemoryWrite slots))
    by true later = h
    by false later = later

bank_in_order : (d : Netlist) (k : ℕ) (slots : List Slot) → InOrder d k slots → InOrder d k (insert_slot d BankWrite slots)
bank_in_order d k [] h = h
bank_in_order d k (Kept n name ∷ slots) h = by (nat_lt (slot_at d BankWrite) name) (bank_in_order d (suc k) slots h.1)
  where
    by : (b : Bool) → InOrder d (suc k) (insert_slot d BankWrite slots) → InOrder d k (cond b (BankWrite ∷ Kept n name ∷ slots) (Kept n name ∷ insert_slot d BankWrite slots))
    by true later = h
    by false later = (h.0, later)
bank_in_order d k (MemoryWrite ∷ slots) h = by (nat_lt (slot_at d BankWrite) (slot_at d MemoryWrite)) (bank_in_order d k slots h)
  where
    by : (b : Bool) → InOrder d k (insert_slot d BankWrite slots) → InOrder d k (cond b (BankWrite ∷ MemoryWrite ∷ slots) (MemoryWrite ∷ insert_slot d BankWrite slots))
    by true later = h
    by false later = later
bank_in_order d k (BankWrite ∷ slots) h = by (nat_lt (slot_at d BankWrite) (slot_at d BankWrite)) (bank_in_order d k slots h)
  where
    by : (b : Bool) → InOrder d k (insert_slot d BankWrite slots) → InOrder d k (cond b (BankWrite ∷ BankWrite ∷ slots) (BankWrite ∷ insert_slot d BankWrite slots))
    by true later = h
    by false later = later

slots_in_order : (d : Netlist) → InOrder d 0 (slots_of d)
slots_in_order d =
    memory_in_order d 0 (insert_slot d BankWrite (kept_from 0 d.nets))
    (bank_in_order d 0 (kept_from 0 d.nets) (kept_in_order d 0 d.nets (omega arith)))

none_added : (d : Netlist) (n : ℕ) → length d.nets ≤ n → added_before d (slice_get d.nets n) ≡ 0
none_added d n h = ap (added_before d) (slice_get_past d.nets n h)

number_at : (d : Netlist) (slots : List Slot) (k at j n : ℕ) → InOrder d k slots → n ≡ k + j → number_from (at + total d slots) (slice_get (numbers_from d at slots) j) ≡ at + before d (is_kept n) slots + added_before d (slice_get d.nets n)
number_at d [] k at j n o e = let z = none_added d n (omega (arith, o, e)) in omega (arith, z)
number_at d (Kept i name ∷ slots) k at zero n o e =
    let same : i ≡ n = omega (arith, o.0, e) in
    let b : before d (is_kept n) (Kept i name ∷ slots) ≡ 0 = ap (λ t. cond t 0 (slot_size d (Kept i name) + before d (is_kept n) slots)) (eq-eqb i n same) in
    let a : added_before d (slice_get d.nets i) ≡ added_before d (slice_get d.nets n) = ap (λ x. added_before d (slice_get d.nets x)) same in
    omega (arith, a, b)
number_at d (Kept i name ∷ slots) k at (suc j) n o e =
    let b : before d (is_kept n) (Kept i name ∷ slots) ≡ slot_size d (Kept i name) + before d (is_kept n) slots =
    ap (λ t. cond t 0 (slot_size d (Kept i name) + before d (is_kept n) slots)) (ne_eqb i n (λ q. let f = o.0 in omega (arith, q, f, e))) in
    let t : at + (slot_size d (Kept i name) + total d slots) ≡ at + slot_size d (Kept i name) + total d slots = omega arith in
    let r = number_at d slots (suc k) (at + slot_size d (Kept i name)) j n o.1 (omega arith) in
    ap (λ past. number_from past (slice_get (numbers_from d (at + slot_size d (Kept i name)) slots) j)) t ∙ r ∙ omega (arith, b)
number_at d (MemoryWrite ∷ slots) k at j n o e =
    let t : at + (slot_size d MemoryWrite + total d slots) ≡ at + slot_size d MemoryWrite + total d slots = omega arith in
    let r = number_at d slots k (at + slot_size d MemoryWrite) j n o e in
    ap (λ past. number_from past (slice_get (numbers_from d (at + slot_size d MemoryWrite) slots) j)) t ∙ r ∙ omega arith
number_at d (BankWrite ∷ slots) k at j n o e =
    let t : at + (slot_size d BankWrite + total d slots) ≡ at + slot_size d BankWrite + total d slots = omega arith in
    let r = number_at d slots k (at + slot_size d BankWrite) j n o e in
    ap (λ past. number_from past (slice_get (numbers_from d (at + slot_size d BankWrite) slots) j)) t ∙ r ∙ omega arith

-- ---- bounds

enable_few : (when : Option ℕ) → enable_count when ≤ 1
enable_few None = omega arith
enable_few (Some when) = omega arith

end_few : (space : Space) → access_end space 1 ≤ 3
end_few InMemory = omega arith
end_few InFile = omega arith

gate_few : (d : Netlist) (gate : Gate) → added_to d gate ≤ 3
gate_few d (Read memory addr) = end_few (space_at d memory)
gate_few d (Word code) = omega arith
gate_few d (Reg id) = omega arith
gate_few d (Const c) = omega arith
gate_few d (Wire a) = omega arith
gate_few d (Un op a) = omega arith
gate_few d (Bin op a b) = omega arith
gate_few d (Slice of hi lo) = omega arith
gate_few d (Cat a b) = omega arith
gate_few d (Zext a) = omega arith
gate_few d (Sext a) = omega arith
gate_few d (Case sel rows rest) = omega arith
gate_few d (Bus drivers) = omega arith

pub added_few : (d : Netlist) (net : Option Net) → added_before d net ≤ 3
added_few d None = omega arith
added_few d (Some net) = gate_few d net.gate

pub count_few : (d : Netlist) (net : Option Net) → count_for d net ≤ 4
count_few d None = omega arith
count_few d (Some net) = omega (arith, gate_few d net.gate)

pub slot_few : (d : Netlist) (slot : Slot) → slot_size d slot ≤ 6
slot_few d (Kept n name) = omega (arith, count_few d (slice_get d.nets n))
slot_few d MemoryWrite = omega (arith, enable_few (memory_port d).when, enable_few (bank_port d).when)
slot_few d BankWrite = omega arith

total_few : (d : Netlist) (slots : List Slot) → total d slots ≤ 6 * length slots
total_few d [] = omega arith
total_few d (slot ∷ slots) = omega (arith, slot_few d slot, total_few d slots)

before_few : (d : Netlist) (test : Slot → Bool) (slots : List Slot) → before d test slots ≤ total d slots
before_few d test [] = omega arith
before_few d test (slot ∷ slots) = by (test slot) (before_few d test slots)
  where
    by : (b : Bool) → before d test slots ≤ total d slots → cond b 0 (slot_size d slot + before d test slots) ≤ slot_size d slot + total d slots
    by true h = omega arith
    by false h = omega arith

insert_length : (d : Netlist) (slot : Slot) (slots : List Slot) → length (insert_slot d slot slots) ≡ length slots + 1
insert_length d slot [] = omega arith
insert_length d slot (x ∷ slots) = by (nat_lt (slot_at d slot) (slot_at d x)) (insert_length d slot slots)
  where
    by : (b : Bool) → length (insert_slot d slot slots) ≡ length slots + 1 → length (cond b (slot ∷ x ∷ slots) (x ∷ insert_slot d slot slots)) ≡ length (x ∷ slots) + 1
    by true h = omega arith
    by false h = omega arith

kept_length : (from : ℕ) (nets : List Net) → length (kept_from from nets) ≡ length nets
kept_length from [] = refl
kept_length from (net ∷ nets) = ap suc (kept_length (from + 1) nets)

pub slots_length : (d : Netlist) → length (slots_of d) ≡ length d.nets + 2
slots_length d =
    omega (
      arith,
      insert_length d MemoryWrite (insert_slot d BankWrite (kept_from 0 d.nets)),
      insert_length d BankWrite (kept_from 0 d.nets),
      kept_length 0 d.nets,
    )

-- ---- the numbers that the code finds

pub are_numbers : (d : Netlist) → length d.nets ≤ 1000 → (numbers : Numbers) → numbers.nets ≡ numbers_from d 0 (slots_of d) → numbers.past ≡ total d (slots_of d) → numbers.memory ≡ before d is_memory_write (slots_of d) → numbers.bank ≡ before d is_bank_write (slots_of d) → numbers.storage ≡ memory_id (others d) → numbers.bank_place ≡ bank_place d → AreNumbers d numbers
are_numbers d few numbers e p m b i at_bank =
    let most : total d (slots_of d) ≤ 6012 = omega (arith, few, slots_length d, total_few d (slots_of d)) in
    let q : numbers.past ≡ 0 + total d (slots_of d) = omega (arith, p) in
    let at = λ (n : ℕ).
    ap (λ (l : List ℕ). number_from numbers.past (slice_get l n)) e
    ∙ ap (λ x. number_from x (slice_get (numbers_from d 0 (slots_of d)) n)) q
    ∙ number_at d (slots_of d) 0 0 n n (slots_in_order d) (omega arith) in
    record {
      nets = λ n. omega (arith, at n);
      memory = m;
      bank = b;
      storage = i;
      bank_place = at_bank;
      few_nets = λ n. omega (arith, at n, most, before_few d (is_kept n) (slots_of d), added_few d (slice_get d.nets n));
      few_memory = omega (arith, m, most, before_few d is_memory_write (slots_of d));
      few_bank = omega (arith, b, most, before_few d is_bank_write (slots_of d));
    }

-- ---- what the code makes by them

pub renamed_by : (d : Netlist) (numbers : Numbers) (at : ℕ) (gate : Gate) → AreNumbers d numbers → renamed d (number_in numbers) at gate ≡ renamed d (net_number d (numbering_of d)) at gate
renamed_by d numbers at gate h = ap (λ (f : ℕ → ℕ). renamed d f at gate) (fun_ext h.nets)

pub first_by : (d : Netlist) (numbers : Numbers) (n : ℕ) → AreNumbers d numbers → number_in numbers n - added_before d (slice_get d.nets n) ≡ (numbering_of d).first n
first_by d numbers n h = omega (arith, h.nets n)

enable_by : (d : Netlist) (numbers : Numbers) (at : ℕ) (when : Option ℕ) → AreNumbers d numbers → enable_number (number_in numbers) at when ≡ enable_number (net_number d (numbering_of d)) at when
enable_by d numbers at when h = ap (λ (f : ℕ → ℕ). enable_number f at when) (fun_ext h.nets)

pub memory_enable_by : (d : Netlist) (numbers : Numbers) → AreNumbers d numbers → enable_number (number_in numbers) (numbers.memory + 1) (memory_port d).when ≡ memory_enable d (numbering_of d)
memory_enable_by d numbers h =
    enable_by d numbers (numbers.memory + 1) (memory_port d).when h
    ∙ ap (λ n. enable_number (net_number d (numbering_of d)) (n + 1) (memory_port d).when) h.memory

pub bank_enable_by : (d : Netlist) (numbers : Numbers) → AreNumbers d numbers → enable_number (number_in numbers) (numbers.memory + 1 + enable_count (memory_port d).when) (bank_port d).when ≡ bank_enable d (numbering_of d)
bank_enable_by d numbers h =
    enable_by d numbers (numbers.memory + 1 + enable_count (memory_port d).when) (bank_port d).when h
    ∙ ap (λ n. enable_number (net_number d (numbering_of d)) (n + 1 + enable_count (memory_port d).when) (bank_port d).when) h.memory

pub when_by : (d : Netlist) (numbers : Numbers) (when : Option ℕ) → AreNumbers d numbers → option_map (number_in numbers) when ≡ option_map (net_number d (numbering_of d)) when
when_by d numbers when h = ap (λ (f : ℕ → ℕ). option_map f when) (fun_ext h.nets)

-- ---- storages

joined_ahead : (d : Netlist) (i : ℕ) (storages : List Storage) → (bank_place d) < i → joined_from d i storages ≡ map (joined d (numbering_of d)) storages
joined_ahead d i [] h = refl
joined_ahead d i (storage ∷ storages) h =
    ap (λ b. cond b (joined_from d (i + 1) storages) (joined d (numbering_of d) storage ∷ joined_from d (i + 1) storages)) (ne_eqb i (bank_place d) (λ e. omega (arith, e, h)))
    ∙ ap (λ (l : List Storage). joined d (numbering_of d) storage ∷ l) (joined_ahead d (i + 1) storages (omega arith))

joined_at : (d : Netlist) (storages : List Storage) (i b : ℕ) → (bank_place d) ≡ i + b → joined_from d i storages ≡ map (joined d (numbering_of d)) (remove storages b)
joined_at d [] i zero e = refl
joined_at d [] i (suc b) e = refl
joined_at d (storage ∷ storages) i zero e =
    ap (λ b. cond b (joined_from d (i + 1) storages) (joined d (numbering_of d) storage ∷ joined_from d (i + 1) storages)) (eq-eqb i (bank_place d) (omega arith))
    ∙ joined_ahead d (i + 1) storages (omega arith)
joined_at d (storage ∷ storages) i (suc b) e =
    ap (λ t. cond t (joined_from d (i + 1) storages) (joined d (numbering_of d) storage ∷ joined_from d (i + 1) storages)) (ne_eqb i (bank_place d) (λ q. omega (arith, e, q)))
    ∙ ap (λ (l : List Storage). joined d (numbering_of d) storage ∷ l) (joined_at d storages (i + 1) b (omega arith))

pub joined_others : (d : Netlist) → joined_from d 0 d.storages ≡ map (joined d (numbering_of d)) (remove d.storages (bank_place d))
joined_others d = joined_at d d.storages 0 (bank_place d) (omega arith)

-- ---- the view

abbrev pub made : List Net → List Storage → List Code → Netlist
made nets storages codes = record {
  nets = nets;
  storages = storages;
  codes = codes;
  edition = view_edition;
  special = None;
}

pub view_is : (d : Netlist) (slots : List Slot) (nets : List Net) (storages : List Storage) (codes : List Code) → slots ≡ slots_of d → nets ≡ flat_map (slot_nets d (numbering_of d)) slots → storages ≡ joined_from d 0 d.storages → codes ≡ map (renamed_code d) d.codes → made nets storages codes ≡ view_of d
view_is d slots nets storages codes e f g h =
    ap (λ (l : List Net). made l storages codes) (f ∙ ap (flat_map (slot_nets d (numbering_of d))) e)
    ∙ ap (λ (l : List Storage). made (view_of d).nets l codes) (g ∙ joined_others d)
    ∙ ap (λ (l : List Code). made (view_of d).nets (view_of d).storages l) h

-- how long the slots are that the code goes over
pub slots_few : (d : Netlist) (slots : List Slot) → slots ≡ slots_of d → length d.nets ≤ 1000 → length slots ≤ 2000
slots_few d slots e few = let q = ap (λ (l : List Slot). length l) e in omega (arith, q, few, slots_length d)
