-- The view of a netlist that keeps its rules has its roles and keeps the limits.
use Rattle.std.proofs.Common.{lit<, ◌≡◌, ℕ, zero, suc, ◌+◌, ◌-◌, ◌*◌, ◌^◌, ◌<◌, ◌≤◌, nat_lt, if◌then◌else◌, Bool, true, false, cond, List, [], ◌∷◌, ◌++◌, length, map, option_map, slice_get, slice_index, Option, Some, None, refl, ap, sym, ◌∙◌, subst, arith}
use Rattle.std.specs.List.{remove, flat_map, AllByRecursion}
use Rattle.std.proofs.Math.Nat.{pow-le-pow_right}
use Rattle.std.proofs.lemmas.List.{length-append, length-map}
use Rattle.std.proofs.lemmas.Option.{slice_get-map}
use Rattle.std.proofs.lemmas.Grind.{pow_more}
use Rattle.net_model.specs.declared.hardware.Cells.{Cells}
use Rattle.net_model.specs.declared.hardware.Code.{Code}
use Rattle.net_model.specs.declared.hardware.Net.{Net}
use Rattle.net_model.specs.declared.hardware.Netlist.{Netlist}
use Rattle.net_model.specs.declared.hardware.Space.{Space}
use Rattle.net_model.specs.declared.hardware.Space.TheVariants.{Memory as InMemory, File as InFile}
use Rattle.net_model.specs.declared.hardware.Storage.{Storage}
use Rattle.net_model.specs.declared.hardware.Storage.TheVariants.{Register, Memory, File}
use Rattle.net_model.specs.declared.states.State.{State}
use Rattle.net_model.specs.Clock.{counter_in}
use Rattle.net_model.specs.Nets.{IsRegister, array_in, counter_of, counter_width, is_in, memory_size, memory_width, storage_bits}
use Rattle.net_model.specs.CheckedRules.{HasFewCells, HasRoles, IsAddressed, IsCounter, IsReached, IsWithinLimits, code_size, count_in, memory_addr_width, memory_count, register_count}
use Rattle.net_model.proofs.KeptRules.{counter_register}
use Rattle.bank_view.specs.declared.slot.Slot.{Slot}
use Rattle.bank_view.specs.declared.slot.Slot.TheVariants.{Kept, MemoryWrite, BankWrite}
use Rattle.bank_view.specs.Banks.{addr_bits, bank_place, bank_port, memory_port, others}
use Rattle.bank_view.specs.Keeping.{HasBanks}
use Rattle.bank_view.specs.Inner.Banked.{IsBeside}
use Rattle.bank_view.specs.Inner.Numbers.{total}
use Rattle.bank_view.specs.Views.{insert_slot, join_state, joined, kept_from, numbering_of, renamed_code, slot_at, slot_nets, slot_size, slots_of, storage_number, view_edition, view_of}
use Rattle.bank_view.proofs.Arrays.{not_bank}
use Rattle.bank_view.proofs.Beside.{beside_of, few_nets, port_width}
use Rattle.bank_view.proofs.Lists.{index_is, removed_at}
use Rattle.bank_view.proofs.Numbers.{count_few, slot_few}
use Rattle.bank_view.proofs.Places.{slot_length}
use Rattle.bank_view.proofs.Starts.{joined_bits, joined_size, view_no_file, view_wide}

-- ---- storages by their numbers

-- a storage other than the bank stands in the view
pub other_there : (d : Netlist) (id : ℕ) → (id ≡ bank_place d → ⊥) → slice_get (view_of d).storages (storage_number d id) ≡ option_map (joined d (numbering_of d)) (slice_get d.storages id)
other_there d id ne =
    slice_get-map (joined d (numbering_of d)) (others d) (storage_number d id)
    ∙ ap (option_map (joined d (numbering_of d))) (removed_at d.storages (bank_place d) id ne)

register_still : (d : Netlist) (o : Option Storage) → IsRegister o → IsRegister (option_map (joined d (numbering_of d)) o)
register_still d None h = h
register_still d (Some (Register name width input when)) h = tt
register_still d (Some (Memory cells)) h = absurd h
register_still d (Some (File cells)) h = absurd h

-- a register is one there, and has its width
pub register_there : (d : Netlist) (id : ℕ) → IsRegister (slice_get d.storages id) → IsRegister (slice_get (view_of d).storages (storage_number d id))
register_there d id r =
    subst IsRegister (sym (other_there d id (not_bank d id r))) (register_still d (slice_get d.storages id) r)

pub register_wide : (d : Netlist) (id : ℕ) → IsRegister (slice_get d.storages id) → storage_bits (slice_get (view_of d).storages (storage_number d id)) ≡ storage_bits (slice_get d.storages id)
register_wide d id r = ap storage_bits (other_there d id (not_bank d id r)) ∙ joined_bits d (slice_get d.storages id)

-- ---- roles

same_in : (d : Netlist) (space : Space) (storage : Storage) → is_in space (joined d (numbering_of d) storage) ≡ is_in space storage
same_in d InMemory (Register name width input when) = refl
same_in d InMemory (Memory cells) = refl
same_in d InMemory (File cells) = refl
same_in d InFile (Register name width input when) = refl
same_in d InFile (Memory cells) = refl
same_in d InFile (File cells) = refl

joined_count : (d : Netlist) (space : Space) (storages : List Storage) → count_in space (map (joined d (numbering_of d)) storages) ≡ count_in space storages
joined_count d space [] = refl
joined_count d space (storage ∷ storages) =
    ap (λ (b : Bool). (if b then 1 else 0) + count_in space (map (joined d (numbering_of d)) storages)) (same_in d space storage)
    ∙ ap (λ n. (if is_in space storage then 1 else 0) + n) (joined_count d space storages)

pub joined_addr : (d : Netlist) (storages : List Storage) → memory_count storages ≡ 1 → memory_addr_width (map (joined d (numbering_of d)) storages) ≡ addr_bits d + 1
joined_addr d [] e = absurd (omega (arith, e))
joined_addr d (Register name width input when ∷ storages) e = joined_addr d storages (omega (arith, e))
joined_addr d (Memory cells ∷ storages) e = refl
joined_addr d (File cells ∷ storages) e = joined_addr d storages (omega (arith, e))

joined_counter : (d : Netlist) (o : Option Storage) → IsCounter o → IsCounter (option_map (joined d (numbering_of d)) o)
joined_counter d None h = h
joined_counter d (Some (Register name width input None)) h = h
joined_counter d (Some (Register name width input (Some when))) h = absurd h
joined_counter d (Some (Memory cells)) h = absurd h
joined_counter d (Some (File cells)) h = absurd h

counter_named : (d : Netlist) (codes : List Code) → length codes ≡ 1 → counter_of (map (renamed_code d) codes) ≡ storage_number d (counter_of codes)
counter_named d [] e = absurd (omega arith)
counter_named d (code ∷ codes) e = refl

pub same_size : (d : Netlist) (codes : List Code) → code_size (map (renamed_code d) codes) ≡ code_size codes
same_size d [] = refl
same_size d (code ∷ codes) = refl

module _ (d : Netlist) (h : HasBanks d) where
  beside : IsBeside d
  beside = beside_of d h

  -- the program counter in the view
  counter_at : slice_get (view_of d).storages (counter_of (view_of d).codes) ≡ option_map (joined d (numbering_of d)) (slice_get d.storages (counter_of d.codes))
  counter_at =
      ap (slice_get (view_of d).storages) (counter_named d d.codes h.roles.code)
      ∙ other_there d (counter_of d.codes)
      (not_bank d (counter_of d.codes) (counter_register (slice_get d.storages (counter_of d.codes)) h.roles.counter))

  same_wide : counter_width (view_of d) ≡ counter_width d
  same_wide = ap storage_bits counter_at ∙ joined_bits d (slice_get d.storages (counter_of d.codes))

  -- and what it holds there
  pub same_counter : (s : State) → counter_in (view_of d) (join_state d s) ≡ counter_in d s
  same_counter s =
      ap (slice_index (remove s.regs (bank_place d))) (counter_named d d.codes h.roles.code)
      ∙ index_is (remove s.regs (bank_place d)) s.regs (storage_number d (counter_of d.codes)) (counter_of d.codes)
      (removed_at s.regs (bank_place d) (counter_of d.codes)
      (not_bank d (counter_of d.codes) (counter_register (slice_get d.storages (counter_of d.codes)) h.roles.counter)))

  cell_wide : memory_width (view_of d).storages ≡ (memory_port d).width
  cell_wide = view_wide d ∙ sym (port_width (array_in InMemory d.storages))

  pub view_roles : HasRoles (view_of d)
  view_roles =
      let size : memory_size (view_of d).storages ≡ 2 ^ addr_bits d + (bank_port d).size = joined_size d (others d) beside.one in
      let bits : memory_addr_width (view_of d).storages ≡ addr_bits d + 1 = joined_addr d (others d) beside.one in
      let two : 2 ^ (addr_bits d + 1) ≡ 2 ^ addr_bits d * 2 = pow_more 2 (addr_bits d) in
      let words : code_size (view_of d).codes ≡ code_size d.codes = same_size d d.codes in
      let cells : memory_size (view_of d).storages ≤ 2 ^ (addr_bits d + 1) = omega (arith, size, two, beside.size.1) in
      record {
        code = length-map d.codes (renamed_code d) ∙ h.roles.code;
        memory = joined_count d InMemory (others d) ∙ beside.one;
        counter = subst (λ (o : Option Storage). IsCounter o) (sym counter_at) (joined_counter d (slice_get d.storages (counter_of d.codes)) h.roles.counter);
        sizes = (
          (omega (arith, words, h.roles.sizes.0.0), subst (λ n. code_size (view_of d).codes ≤ 2 ^ n) (sym same_wide) (omega (arith, words, h.roles.sizes.0.1))),
          (omega (arith, size, beside.size.0), subst (λ n. memory_size (view_of d).storages ≤ 2 ^ n) (sym bits) cells),
        );
        address = omega (arith, bits, cell_wide, beside.narrow);
        file = (joined_count d InFile (others d) ∙ beside.none, subst IsReached (sym (view_no_file d beside)) tt);
        mode = tt;
        bank = tt;
      }

-- ---- limits

nets_long : (d : Netlist) (slots : List Slot) → length (flat_map (slot_nets d (numbering_of d)) slots) ≡ total d slots
nets_long d [] = refl
nets_long d (slot ∷ slots) =
    length-append (slot_nets d (numbering_of d) slot) (flat_map (slot_nets d (numbering_of d)) slots)
    ∙ omega (arith, slot_length d (numbering_of d) slot, nets_long d slots)

insert_total : (d : Netlist) (slot : Slot) (slots : List Slot) → total d (insert_slot d slot slots) ≡ slot_size d slot + total d slots
insert_total d slot [] = refl
insert_total d slot (x ∷ slots) = by (nat_lt (slot_at d slot) (slot_at d x)) (insert_total d slot slots)
  where
    by : (b : Bool) → total d (insert_slot d slot slots) ≡ slot_size d slot + total d slots → total d (cond b (slot ∷ x ∷ slots) (x ∷ insert_slot d slot slots)) ≡ slot_size d slot + (slot_size d x + total d slots)
    by true h = refl
    by false h = omega (arith, h)

kept_total : (d : Netlist) (from : ℕ) (nets : List Net) → total d (kept_from from nets) ≤ 4 * length nets
kept_total d from [] = omega arith
kept_total d from (net ∷ nets) = omega (arith, count_few d (slice_get d.nets from), kept_total d (from + 1) nets)

joined_registers : (d : Netlist) (storages : List Storage) → register_count (map (joined d (numbering_of d)) storages) ≡ register_count storages
joined_registers d [] = refl
joined_registers d (Register name width input when ∷ storages) = ap (λ n. n + 1) (joined_registers d storages)
joined_registers d (Memory cells ∷ storages) = joined_registers d storages
joined_registers d (File cells ∷ storages) = joined_registers d storages

removed_registers : (storages : List Storage) (b : ℕ) → register_count (remove storages b) ≤ register_count storages
removed_registers [] zero = omega arith
removed_registers [] (suc b) = omega arith
removed_registers (Register name width input when ∷ storages) zero = omega arith
removed_registers (Memory cells ∷ storages) zero = omega arith
removed_registers (File cells ∷ storages) zero = omega arith
removed_registers (Register name width input when ∷ storages) (suc b) = omega (arith, removed_registers storages b)
removed_registers (Memory cells ∷ storages) (suc b) = removed_registers storages b
removed_registers (File cells ∷ storages) (suc b) = removed_registers storages b

module _ (d : Netlist) (h : IsBeside d) where
  joined_few : (storages : List Storage) → count_in InFile storages ≡ 0 → AllByRecursion (HasFewCells view_edition) (map (joined d (numbering_of d)) storages)
  joined_few [] e = tt
  joined_few (Register name width input when ∷ storages) e = (tt, joined_few storages (omega (arith, e)))
  joined_few (Memory cells ∷ storages) e =
      let p : 2 ^ addr_bits d ≤ 2 ^ 15 = pow-le-pow_right (lit< tt) h.few in
      (omega (arith, p, h.size.1), joined_few storages (omega (arith, e)))
  joined_few (File cells ∷ storages) e = absurd (omega (arith, e))

few_words : (d : Netlist) (codes : List Code) → AllByRecursion (λ (code : Code). code.words ≤ 65536) codes → AllByRecursion (λ (code : Code). code.words ≤ 65536) (map (renamed_code d) codes)
few_words d [] h = tt
few_words d (code ∷ codes) h = (h.0, few_words d codes h.1)

pub view_limits : (d : Netlist) → HasBanks d → IsWithinLimits (view_of d)
view_limits d h = record {
  nets = omega (
    arith,
    few_nets d h,
    nets_long d (slots_of d),
    insert_total d MemoryWrite (insert_slot d BankWrite (kept_from 0 d.nets)),
    insert_total d BankWrite (kept_from 0 d.nets),
    kept_total d 0 d.nets,
    slot_few d MemoryWrite,
    slot_few d BankWrite,
  );
  registers = omega (arith, h.formed.limits.registers, joined_registers d (others d), removed_registers d.storages (bank_place d));
  cells = joined_few d (beside_of d h) (others d) (beside_of d h).none;
  words = few_words d d.codes h.formed.limits.words;
}
