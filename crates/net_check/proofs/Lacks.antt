-- The lone memory and the lone code of a netlist.
use Rattle.std.proofs.Common.{◌≡◌, ℕ, ◌^◌, ◌<◌, IsTrue, is_some, Option, List, [], ◌∷◌, Some, None, length, get_or, slice_get, option_map, refl, sym, ap, ◌∙◌, subst, arith, zero-add, zero, suc}
use Rattle.std.specs.List.{AllByRecursion}
use Rattle.net_model.specs.declared.hardware.Netlist.{Netlist}
use Rattle.net_model.specs.declared.hardware.Cells.{Cells}
use Rattle.net_model.specs.declared.hardware.Code.{Code}
use Rattle.net_model.specs.declared.hardware.Storage.{Storage}
use Rattle.net_model.specs.declared.hardware.Storage.TheVariants.{Register, Memory, File}
use Rattle.net_model.specs.declared.hardware.Space.TheVariants.{File as InFile}
use Rattle.net_model.specs.Nets.{array_addr_width, array_in, array_size, array_width, counter_of, counter_width, storage_bits}
use Rattle.net_model.specs.CheckedRules.{StorageKeeps, IsCounter, IsAddressed, HasBankBeside, HasCounter, HasSizes, IsWellFormed, memory_count, code_size, count_in, memory_addr_width}
use Rattle.rec_bits.specs.Operators.{IsWidth}
use Rattle.net_check.specs.Inner.Roles.{lone_from, IsShape, IsShapedBeside}
use Rattle.net_check.specs.Inner.Roles.{shape_of as measures_of}
use Rattle.net_check.specs.declared.role.CellMeasures.{CellMeasures}

some_met : (s t : CellMeasures) (storages : List Storage) → lone_from (Some s) storages ≡ Some t → (memory_count storages ≡ 0) × (t ≡ s)
some_met s t [] e = (refl, cc e)
some_met s t (Register name width input when ∷ storages) e = simp zero-add (some_met s t storages e)
some_met s t (Memory cells ∷ storages) e = absurd (cc e)
some_met s t (File cells ∷ storages) e = simp zero-add (some_met s t storages e)

some_lost : (s : CellMeasures) (storages : List Storage) → lone_from (Some s) storages ≡ None → 0 < memory_count storages
some_lost s [] e = absurd (cc e)
some_lost s (Register name width input when ∷ storages) e = simp zero-add (some_lost s storages e)
some_lost s (Memory cells ∷ storages) e = omega arith
some_lost s (File cells ∷ storages) e = simp zero-add (some_lost s storages e)

pub shape_of : (shape : CellMeasures) (storages : List Storage) → lone_from None storages ≡ Some shape → IsShape storages shape
shape_of shape [] e = absurd (cc e)
shape_of shape (Register name width input when ∷ storages) e =
    let k : IsShape storages shape = shape_of shape storages e in
    record { one = simp zero-add k.one; width = k.width; size = k.size; addr_width = k.addr_width }
shape_of shape (File cells ∷ storages) e =
    let k : IsShape storages shape = shape_of shape storages e in
    record { one = simp zero-add k.one; width = k.width; size = k.size; addr_width = k.addr_width }
shape_of shape (Memory cells ∷ storages) e =
    let k : (memory_count storages ≡ 0) × (shape ≡ measures_of cells) = some_met _ shape storages e in
    record {
      one = omega (arith, k.0);
      width = sym (ap (λ (s : CellMeasures). s.width) k.1);
      size = sym (ap (λ (s : CellMeasures). s.size) k.1);
      addr_width = sym (ap (λ (s : CellMeasures). s.addr_width) k.1);
    }

pub no_shape : (storages : List Storage) → lone_from None storages ≡ None → memory_count storages ≡ 1 → ⊥
no_shape [] e h = omega arith
no_shape (Register name width input when ∷ storages) e h = no_shape storages e (simp zero-add at h)
no_shape (File cells ∷ storages) e h = no_shape storages e (simp zero-add at h)
no_shape (Memory cells ∷ storages) e h =
    let k : 0 < memory_count storages = some_lost _ storages e in
    absurd (omega (arith, k, h))

-- a lone code
pub counter_is : (codes : List Code) (code : Code) → length codes ≡ 1 → code ≡ get_or codes 0 code → counter_of codes ≡ code.counter
counter_is [] code one e = absurd (omega arith)
counter_is (x ∷ codes) code one e = sym (ap (λ (c : Code). c.counter) e)

pub size_is : (codes : List Code) (code : Code) → length codes ≡ 1 → code ≡ get_or codes 0 code → code_size codes ≡ code.words
size_is [] code one e = absurd (omega arith)
size_is (x ∷ codes) code one e = sym (ap (λ (c : Code). c.words) e)

-- widths
pub counter_wide : (netlist : Netlist) (storages : List Storage) (id : ℕ) → AllByRecursion (StorageKeeps netlist) storages → IsCounter (slice_get storages id) → IsWidth (storage_bits (slice_get storages id))
counter_wide netlist [] id h c = absurd c
counter_wide netlist (Register name width input when ∷ storages) zero h c = h.0.0
counter_wide netlist (Memory cells ∷ storages) zero h c = absurd c
counter_wide netlist (File cells ∷ storages) zero h c = absurd c
counter_wide netlist (Register name width input when ∷ storages) (suc id) h c = counter_wide netlist storages id h.1 c
counter_wide netlist (Memory cells ∷ storages) (suc id) h c = counter_wide netlist storages id h.1 c
counter_wide netlist (File cells ∷ storages) (suc id) h c = counter_wide netlist storages id h.1 c

pub addr_wide : (netlist : Netlist) (storages : List Storage) → AllByRecursion (StorageKeeps netlist) storages → memory_count storages ≡ 1 → IsWidth (memory_addr_width storages)
addr_wide netlist [] h e = absurd (omega arith)
addr_wide netlist (Register name width input when ∷ storages) h e = addr_wide netlist storages h.1 (simp zero-add at e)
addr_wide netlist (Memory cells ∷ storages) h e = h.0.1
addr_wide netlist (File cells ∷ storages) h e = addr_wide netlist storages h.1 (simp zero-add at e)

-- the addresses of a file have some bits
pub file_wide : (netlist : Netlist) (storages : List Storage) (file : CellMeasures) → AllByRecursion (StorageKeeps netlist) storages → Some file ≡ option_map measures_of (array_in InFile storages) → IsWidth file.addr_width
file_wide netlist [] file h e = absurd (cc e)
file_wide netlist (Register name width input when ∷ storages) file h e = file_wide netlist storages file h.1 e
file_wide netlist (Memory cells ∷ storages) file h e = file_wide netlist storages file h.1 e
file_wide netlist (File cells ∷ storages) file h e =
    let s : measures_of cells ≡ file = cc e in
    subst (λ (shape : CellMeasures). IsWidth shape.addr_width) s h.0.1

reached_as : (a b m n : ℕ) → a ≡ b → m ≡ n → IsAddressed a m → IsAddressed b n
reached_as a b m n e f h = subst (λ k. IsAddressed k n) e (subst (λ k. IsAddressed a k) f h)

-- ---- the bank

-- the measures of the first file
file_is : (bank : CellMeasures) (file : Option Cells) → Some bank ≡ option_map measures_of file
    → (array_width file ≡ bank.width) × (array_size file ≡ bank.size) × (array_addr_width file ≡ bank.addr_width)
file_is bank None e = absurd (cc e)
file_is bank (Some cells) e =
    let s : measures_of cells ≡ bank = cc e in
    (ap (λ (s : CellMeasures). s.width) s, ap (λ (s : CellMeasures). s.size) s, ap (λ (s : CellMeasures). s.addr_width) s)

no_size : (file : Option Cells) → None ≡ option_map measures_of file → array_size file ≡ 0
no_size None e = refl
no_size (Some cells) e = absurd (cc e)

module _ (storages : List Storage) (special : Option ℕ) where
  pub no_bank_beside : None ≡ option_map measures_of (array_in InFile storages) → HasBankBeside storages special → ⊥
  no_bank_beside e h = omega (arith, h.size.0, no_size (array_in InFile storages) e)

  module _ (memory : CellMeasures) (met : IsShape storages memory) (bank : CellMeasures) (file : Some bank ≡ option_map measures_of (array_in InFile storages)) where
    pub beside_of : IsTrue (is_some special) → count_in InFile storages ≡ 1 → IsShapedBeside bank memory → HasBankBeside storages special
    beside_of has one h =
        let f = file_is bank (array_in InFile storages) file in
        record {
          special = has;
          one = one;
          width = f.0 ∙ h.alike.0 ∙ sym met.width;
          addresses = f.2 ∙ h.alike.1 ∙ sym met.addr_width;
          size = reached_as _ _ _ _ (sym f.1) (sym met.addr_width) h.size;
          full = met.size ∙ h.full ∙ ap (λ (k : ℕ). 2 ^ k) (sym met.addr_width);
          few = omega (arith, met.addr_width, h.room.0);
          narrow = omega (arith, met.addr_width, met.width, h.room.1);
        }

    pub shaped_of : HasBankBeside storages special → IsShapedBeside bank memory
    shaped_of h =
        let f = file_is bank (array_in InFile storages) file in
        record {
          alike = (sym f.0 ∙ h.width ∙ met.width, sym f.2 ∙ h.addresses ∙ met.addr_width);
          room = (omega (arith, met.addr_width, h.few), omega (arith, met.addr_width, met.width, h.narrow));
          size = reached_as _ _ _ _ f.1 met.addr_width h.size;
          full = sym met.size ∙ h.full ∙ ap (λ (k : ℕ). 2 ^ k) met.addr_width;
        }

-- the addresses of a memory have some bits
pub memory_wide : (netlist : Netlist) (memory : CellMeasures) → IsWellFormed netlist → IsShape netlist.storages memory → IsWidth memory.addr_width
memory_wide netlist memory formed met = subst IsWidth met.addr_width (addr_wide netlist netlist.storages formed.storages met.one)

-- what is found of a netlist with one code and one memory
module _ (netlist : Netlist) (formed : IsWellFormed netlist) (code : Code) (one : length netlist.codes ≡ 1) (is : code ≡ get_or netlist.codes 0 code) (memory : CellMeasures) (lone : lone_from None netlist.storages ≡ Some memory) where
  pub shape : IsShape netlist.storages memory
  shape = shape_of memory netlist.storages lone

  pub addr_bits : IsWidth memory.addr_width
  addr_bits = memory_wide netlist memory formed shape

  named_counter : counter_of netlist.codes ≡ code.counter
  named_counter = counter_is netlist.codes code one is

  pub no_counter : (IsCounter (slice_get netlist.storages code.counter) → ⊥) → HasCounter netlist → ⊥
  no_counter f h = f (subst (λ n. IsCounter (slice_get netlist.storages n)) named_counter h)

  module _ (bits : ℕ) (counter : IsCounter (slice_get netlist.storages code.counter) × (storage_bits (slice_get netlist.storages code.counter) ≡ bits)) where
    pub counter_there : HasCounter netlist
    counter_there = subst (λ n. IsCounter (slice_get netlist.storages n)) (sym named_counter) counter.0

    pub bits_wide : IsWidth bits
    bits_wide = subst IsWidth counter.1 (counter_wide netlist netlist.storages code.counter formed.storages counter.0)

    bits_are : counter_width netlist ≡ bits
    bits_are = ap (λ n. storage_bits (slice_get netlist.storages n)) named_counter ∙ counter.1

    pub sizes_are : HasSizes netlist → IsAddressed code.words bits × IsAddressed memory.size memory.addr_width
    sizes_are h =
        (reached_as _ _ _ _ (size_is netlist.codes code one is) bits_are h.0, reached_as _ _ _ _ shape.size shape.addr_width h.1)

    pub sizes_of : IsAddressed code.words bits × IsAddressed memory.size memory.addr_width → HasSizes netlist
    sizes_of h =
        (reached_as _ _ _ _ (sym (size_is netlist.codes code one is)) (sym bits_are) h.0, reached_as _ _ _ _ (sym shape.size) (sym shape.addr_width) h.1)
