-- States of a netlist of two data memories are states of its view.
use Rattle.std.proofs.Common.{◌≡◌, ℕ, zero, suc, ◌+◌, ◌*◌, ◌^◌, ◌<◌, ◌≤◌, if◌then◌else◌, List, [], ◌∷◌, ◌++◌, length, map, option_map, slice_get, slice_index, Option, Some, None, refl, ap, sym, ◌∙◌, subst, arith, inl, inr}
use Rattle.std.specs.List.{remove}
use Rattle.std.proofs.lemmas.Bool.{cases_lt}
use Rattle.std.proofs.lemmas.List.{length-append, length-map}
use Rattle.std.proofs.lemmas.Nat.{pow_pos}
use Rattle.std.proofs.lemmas.Option.{slice_get-map}
use Rattle.rec_bits.proofs.Lists.{append_below}
use Rattle.net_model.specs.declared.hardware.Cells.{Cells}
use Rattle.net_model.specs.declared.hardware.Code.{Code}
use Rattle.net_model.specs.declared.hardware.Netlist.{Netlist}
use Rattle.net_model.specs.declared.hardware.Space.{Space}
use Rattle.net_model.specs.declared.hardware.Space.TheVariants.{Memory as InMemory, File as InFile}
use Rattle.net_model.specs.declared.hardware.Storage.{Storage}
use Rattle.net_model.specs.declared.hardware.Storage.TheVariants.{Register, Memory, File}
use Rattle.net_model.specs.declared.states.State.{State}
use Rattle.net_model.specs.Nets.{array_in, array_size, array_width, code_bits, held, memory_size, memory_width, size_in, storage_bits, width_in}
use Rattle.net_model.specs.Widths.{IsState, StateFits, WordFits}
use Rattle.net_model.specs.CheckedRules.{count_in, memory_count}
use Rattle.bank_view.specs.Banks.{addr_bits, bank_place, bank_port, memory_port, others}
use Rattle.bank_view.specs.Inner.Banked.{IsBeside}
use Rattle.bank_view.specs.Views.{join_state, joined, numbering_of, renamed_code, view_of}
use Rattle.bank_view.proofs.Arrays.{other_memory}
use Rattle.bank_view.proofs.Beside.{long_cells, port_size, port_width}
use Rattle.bank_view.proofs.Lists.{index_is, remove_before, remove_from}

removed_long : {A B : Type 0} (xs : List A) (ys : List B) (b : ℕ) → length xs ≡ length ys → length (remove xs b) ≡ length (remove ys b)
removed_long [] [] zero e = refl
removed_long [] [] (suc b) e = refl
removed_long [] (y ∷ ys) b e = absurd (omega arith)
removed_long (x ∷ xs) [] b e = absurd (omega arith)
removed_long (x ∷ xs) (y ∷ ys) zero e = omega arith
removed_long (x ∷ xs) (y ∷ ys) (suc b) e = ap suc (removed_long xs ys b (omega arith))

pub joined_size : (d : Netlist) (storages : List Storage) → memory_count storages ≡ 1 → memory_size (map (joined d (numbering_of d)) storages) ≡ 2 ^ addr_bits d + (bank_port d).size
joined_size d [] e = absurd (omega (arith, e))
joined_size d (Register name width input when ∷ storages) e = joined_size d storages (omega (arith, e))
joined_size d (Memory cells ∷ storages) e = refl
joined_size d (File cells ∷ storages) e = joined_size d storages (omega (arith, e))

joined_width : (d : Netlist) (storages : List Storage) → memory_width (map (joined d (numbering_of d)) storages) ≡ memory_width storages
joined_width d [] = refl
joined_width d (Register name width input when ∷ storages) = joined_width d storages
joined_width d (Memory cells ∷ storages) = refl
joined_width d (File cells ∷ storages) = joined_width d storages

pub joined_bits : (d : Netlist) (o : Option Storage) → storage_bits (option_map (joined d (numbering_of d)) o) ≡ storage_bits o
joined_bits d None = refl
joined_bits d (Some (Register name width input when)) = refl
joined_bits d (Some (Memory cells)) = refl
joined_bits d (Some (File cells)) = refl

no_array : (d : Netlist) (storages : List Storage) → count_in InFile storages ≡ 0 → array_in InFile (map (joined d (numbering_of d)) storages) ≡ None
no_array d [] e = refl
no_array d (Register name width input when ∷ storages) e = no_array d storages (omega (arith, e))
no_array d (Memory cells ∷ storages) e = no_array d storages (omega (arith, e))
no_array d (File cells ∷ storages) e = absurd (omega (arith, e))

-- the view has no file
pub view_no_file : (d : Netlist) → IsBeside d → array_in InFile (view_of d).storages ≡ None
view_no_file d h = no_array d (others d) h.none

-- and cells of the memory's width
pub view_wide : (d : Netlist) → memory_width (view_of d).storages ≡ memory_width d.storages
view_wide d = joined_width d (others d) ∙ ap array_width (other_memory d.storages)

module _ (d : Netlist) (h : IsBeside d) where
  same_file_width : width_in InFile d.storages ≡ memory_width d.storages
  same_file_width = sym (port_width (array_in InFile d.storages)) ∙ h.width ∙ port_width (array_in InMemory d.storages)

  -- the joined cells have the memory's width
  cells_fit : (s : State) → IsState d s → (space : Space) (a : ℕ) → slice_index (held (join_state d s) space) a < 2 ^ width_in space (view_of d).storages
  cells_fit s is InMemory a =
      subst (λ n. slice_index (s.cells ++ s.file) a < 2 ^ n) (sym (view_wide d))
      (append_below (2 ^ memory_width d.storages) s.cells s.file (is.fits.cells InMemory)
      (λ b. subst (λ n. slice_index s.file b < 2 ^ n) same_file_width (is.fits.cells InFile b)) a)
  cells_fit s is InFile a = pow_pos (width_in InFile (view_of d).storages)

  join_fits : (s : State) → IsState d s → StateFits (view_of d) (join_state d s)
  join_fits s is = record { regs = λ id. by_place id; cells = cells_fit s is }
    where
      at : (id other : ℕ) → slice_get (remove s.regs (bank_place d)) id ≡ slice_get s.regs other → slice_get (others d) id ≡ slice_get d.storages other → slice_index (remove s.regs (bank_place d)) id < 2 ^ storage_bits (slice_get (view_of d).storages id)
      at id other e f =
          let bits : storage_bits (slice_get (view_of d).storages id) ≡ storage_bits (slice_get d.storages other) =
          ap storage_bits (slice_get-map (joined d (numbering_of d)) (others d) id) ∙ joined_bits d (slice_get (others d) id) ∙ ap storage_bits f in
          let v : slice_index (remove s.regs (bank_place d)) id ≡ slice_index s.regs other = index_is (remove s.regs (bank_place d)) s.regs id other e in
          subst (λ n. n < 2 ^ storage_bits (slice_get (view_of d).storages id)) (sym v)
          (subst (λ n. slice_index s.regs other < 2 ^ n) (sym bits) (is.fits.regs other))

      by_place : (id : ℕ) → slice_index (remove s.regs (bank_place d)) id < 2 ^ storage_bits (slice_get (view_of d).storages id)
      by_place id = elim (cases_lt id (bank_place d)) [
        | inl lt ↦ at id id (remove_before s.regs (bank_place d) id lt) (remove_before d.storages (bank_place d) id lt)
        | inr ge ↦
            let le : bank_place d ≤ id = omega (arith, ge) in
            at id (suc id) (remove_from s.regs (bank_place d) id le) (remove_from d.storages (bank_place d) id le)
      ]

  cells_long : (s : State) → IsState d s → (space : Space) → length (held (join_state d s) space) ≡ size_in space (view_of d).storages
  cells_long s is InMemory =
      let l : length (s.cells ++ s.file) ≡ length s.cells + length s.file = length-append s.cells s.file in
      omega (arith, l, joined_size d (others d) h.one, long_cells d h s is, is.cells InFile, port_size (array_in InFile d.storages))
  cells_long s is InFile = sym (ap array_size (view_no_file d h))

  pub join_is_state : (s : State) → IsState d s → IsState (view_of d) (join_state d s)
  join_is_state s is = record {
    regs = removed_long s.regs d.storages (bank_place d) is.regs ∙ sym (length-map (others d) (joined d (numbering_of d)));
    cells = cells_long s is;
    fits = join_fits s is;
  }

pub code_same : (d : Netlist) (codes : List Code) (n : ℕ) → code_bits (slice_get (map (renamed_code d) codes) n) ≡ code_bits (slice_get codes n)
code_same d [] n = refl
code_same d (code ∷ codes) zero = refl
code_same d (code ∷ codes) (suc n) = code_same d codes n

pub word_same : (d : Netlist) (word : ℕ) → WordFits (view_of d) word → WordFits d word
word_same d word w = record {
  fits = λ n h.
      subst (λ b. word < 2 ^ b) (code_same d d.codes n)
      (w.fits n (subst (λ b. 0 < b) (sym (code_same d d.codes n)) h));
}
