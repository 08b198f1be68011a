-- The mode of a text's netlist is a register of 2 bits at most, and its bank a file.
use Rattle.std.proofs.Common.{ℕ, ◌≡◌, ◌+◌, ◌≤◌, Bool, true, false, if◌then◌else◌, List, [], ◌∷◌, ◌++◌, length, Option, Some, None, slice_get, refl, sym, ap, subst, arith, nat_le, eqb-true, append_assoc, length-append}
use Rattle.std.specs.List.{AllByRecursion}
use Rattle.std.proofs.lemmas.Bool.Decides.{nat_tests}
use Rattle.rec_bits.proofs.Lists.{all_append}
use Rattle.net_model.specs.declared.hardware.Storage.{Storage}
use Rattle.net_model.specs.declared.hardware.Storage.TheVariants.{Register, File}
use Rattle.net_model.specs.declared.hardware.Cells.{Cells}
use Rattle.net_model.specs.declared.hardware.Space.TheVariants.{Memory as InMemory, File as InFile}
use Rattle.net_model.specs.declared.units.RegisterKind.TheVariants.{Plain, Mode as AsMode}
use Rattle.net_model.specs.Editions.{is_banked, is_moded}
use Rattle.net_model.specs.Nets.{HasCells, IsRegister, storage_bits}
use Rattle.net_model.specs.CheckedRules.{IsBank, IsMode, IsSpecial, IsSpecialIf}
use Rattle.net_model.specs.Written.{UnitModel, code, register, memory, net, bus, module_item, part}
use Rattle.net_model.specs.Numbering.{count_item, count_storages}
use Rattle.net_model.specs.Elaborated.{files_from, item_storages, lone_bank, lone_mode, modes_from, netlist_in, own_files, own_modes, storages_from}
use Rattle.net_elab.proofs.Standing.{length_stored}

-- the register of this number in a list has this width
abbrev IsWide : List Storage → ℕ × ℕ → Type 0
IsWide storages mode = IsRegister (slice_get storages mode.0) × (storage_bits (slice_get storages mode.0) ≡ mode.1)

at_end : (before rest : List Storage) (x : Storage) → slice_get (before ++ x ∷ rest) (length before) ≡ Some x
at_end [] rest x = refl
at_end (b ∷ before) rest x = at_end before rest x

wide_at : (before rest : List Storage) (name : List ℕ) (width input : ℕ) (when : Option ℕ) (n : ℕ) → length before ≡ n → IsWide (before ++ Register name width input when ∷ rest) (n, width)
wide_at before rest name width input when n is =
    subst (λ (k : ℕ). IsWide (before ++ Register name width input when ∷ rest) (k, width)) is (
      subst IsRegister (sym (at_end before rest (Register name width input when))) tt,
      ap storage_bits (at_end before rest (Register name width input when)),
    )

module _ (text : List UnitModel) where
  own_wide : (before rest : List Storage) (start n : ℕ) (e : UnitModel) → length before ≡ n → AllByRecursion (IsWide (before ++ (item_storages text start e ++ rest))) (own_modes n e)
  own_wide before rest start n (register AsMode name width input when) is = (wide_at before rest name.name width _ _ n is, tt)
  own_wide before rest start n (register Plain name width input when) is = tt
  own_wide before rest start n (code name bits size counter) is = tt
  own_wide before rest start n (memory space name width size addr_width value addr when) is = tt
  own_wide before rest start n (net name width value) is = tt
  own_wide before rest start n (bus name width drivers) is = tt
  own_wide before rest start n (module_item name ports equations) is = tt
  own_wide before rest start n (part name of links) is = tt

  -- each mode among items is a register of its width, whatever storages stand before
  all_wide : (before : List Storage) (start n : ℕ) (entries : List UnitModel) → length before ≡ n → AllByRecursion (IsWide (before ++ storages_from text start entries)) (modes_from n entries)
  all_wide before start n [] is = tt
  all_wide before start n (e ∷ entries) is =
      let rest = storages_from text (start + count_item text e) entries in
      let own = item_storages text start e in
      let more : length (before ++ own) ≡ n + count_storages e = omega (arith, is, length-append before own, length_stored text start e) in
      all_append (IsWide (before ++ (own ++ rest))) (own_modes n e) (modes_from (n + count_storages e) entries)
      (own_wide before rest start n e is)
      (subst (λ (list : List Storage). AllByRecursion (IsWide list) (modes_from (n + count_storages e) entries)) (append_assoc before own rest)
      (all_wide (before ++ own) (start + count_item text e) (n + count_storages e) entries more))

  lone_is : (edition : ℕ) (modes : List (ℕ × ℕ)) → AllByRecursion (IsWide (storages_from text 0 text)) modes → IsMode (netlist_in edition text) (lone_mode modes)
  lone_is edition [] h = tt
  lone_is edition (mode ∷ other ∷ modes) h = tt
  lone_is edition (mode ∷ []) h = by (nat_le mode.1 2) refl
    where
      by : (b : Bool) → nat_le mode.1 2 ≡ b → IsMode (netlist_in edition text) (if b then Some mode.0 else None)
      by true e = (h.0.0, narrow mode.1 e (storage_bits (slice_get (storages_from text 0 text) mode.0)) h.0.1)
        where
          narrow : (w : ℕ) → nat_le w 2 ≡ true → (k : ℕ) → k ≡ w → k ≤ 2
          narrow w e k is = let small : w ≤ 2 = grind (arith, nat_tests) in omega (arith, small, is)
      by false e = tt

  -- each file among items is a file
  file_at : (before rest : List Storage) (cells : Cells) (n : ℕ) → length before ≡ n → HasCells InFile (slice_get (before ++ File cells ∷ rest) n)
  file_at before rest cells n is =
      subst (λ (k : ℕ). HasCells InFile (slice_get (before ++ File cells ∷ rest) k)) is (subst (HasCells InFile) (sym (at_end before rest (File cells))) tt)

  own_filed : (before rest : List Storage) (start n : ℕ) (e : UnitModel) → length before ≡ n
      → AllByRecursion (λ (id : ℕ). HasCells InFile (slice_get (before ++ (item_storages text start e ++ rest)) id)) (own_files n e)
  own_filed before rest start n (memory InFile name width size addr_width value addr when) is = (file_at before rest _ n is, tt)
  own_filed before rest start n (memory InMemory name width size addr_width value addr when) is = tt
  own_filed before rest start n (register kind name width input when) is = tt
  own_filed before rest start n (code name bits size counter) is = tt
  own_filed before rest start n (net name width value) is = tt
  own_filed before rest start n (bus name width drivers) is = tt
  own_filed before rest start n (module_item name ports equations) is = tt
  own_filed before rest start n (part name of links) is = tt

  all_filed : (before : List Storage) (start n : ℕ) (entries : List UnitModel) → length before ≡ n
      → AllByRecursion (λ (id : ℕ). HasCells InFile (slice_get (before ++ storages_from text start entries) id)) (files_from n entries)
  all_filed before start n [] is = tt
  all_filed before start n (e ∷ entries) is =
      let rest = storages_from text (start + count_item text e) entries in
      let own = item_storages text start e in
      let more : length (before ++ own) ≡ n + count_storages e = omega (arith, is, length-append before own, length_stored text start e) in
      all_append (λ (id : ℕ). HasCells InFile (slice_get (before ++ (own ++ rest)) id)) (own_files n e) (files_from (n + count_storages e) entries)
      (own_filed before rest start n e is)
      (subst (λ (list : List Storage). AllByRecursion (λ (id : ℕ). HasCells InFile (slice_get list id)) (files_from (n + count_storages e) entries)) (append_assoc before own rest)
      (all_filed (before ++ own) (start + count_item text e) (n + count_storages e) entries more))

  lone_filed : (edition : ℕ) (files : List ℕ) → AllByRecursion (λ (id : ℕ). HasCells InFile (slice_get (storages_from text 0 text) id)) files → IsBank (netlist_in edition text) (lone_bank files)
  lone_filed edition [] h = tt
  lone_filed edition (file ∷ other ∷ files) h = tt
  lone_filed edition (file ∷ []) h = h.0

  pub special_is : (edition : ℕ) → IsSpecial (netlist_in edition text)
  special_is edition = by (is_moded edition) refl (is_banked edition) refl
    where
      by : (b : Bool) → is_moded edition ≡ b → (f : Bool) → is_banked edition ≡ f
          → IsSpecialIf f (netlist_in edition text) (if b then lone_mode (modes_from 0 text) else if f then lone_bank (files_from 0 text) else None)
      by true moded true banked = absurd (omega (arith, eqb-true edition 3 moded, eqb-true edition 4 banked))
      by true moded false banked = lone_is edition (modes_from 0 text) (all_wide [] 0 0 text refl)
      by false moded true banked = lone_filed edition (files_from 0 text) (all_filed [] 0 0 text refl)
      by false moded false banked = tt
