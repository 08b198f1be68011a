-- A state fits netlists with storages of the same kinds, widths and sizes alike.
use Rattle.std.proofs.Common.{◌≡◌, ◌==◌, ℕ, ◌<◌, ◌^◌, Bool, true, false, if◌then◌else◌, List, [], ◌∷◌, length, map, Option, Some, None, option_map, refl, sym, ◌∙◌, ap, subst, slice_get, slice_index}
use Rattle.std.proofs.lemmas.List.{length-map}
use Rattle.std.proofs.lemmas.Option.{slice_get-map}
use Rattle.net_model.specs.declared.hardware.Netlist.{Netlist}
use Rattle.net_model.specs.declared.hardware.Storage.{Storage}
use Rattle.net_model.specs.declared.hardware.Storage.TheVariants.{Register, Memory, File}
use Rattle.net_model.specs.declared.hardware.Space.{Space}
use Rattle.net_model.specs.declared.hardware.Space.TheVariants.{Memory as InMemory, File as InFile}
use Rattle.net_model.specs.declared.states.State.{State}
use Rattle.net_model.specs.Nets.{held, size_in, storage_bits, width_in}
use Rattle.net_model.specs.Widths.{IsState}
use Rattle.cycle_sim.specs.Trades.{AreAlike, shape_of}

abbrev Shape : Type 0
Shape = Option Space × ℕ × ℕ

-- ---- what is told by the shapes alone

abbrev bits_in : Option Shape → ℕ
bits_in None = 0
bits_in (Some shape) = shape.1

bits_are : (o : Option Storage) → storage_bits o ≡ bits_in (option_map shape_of o)
bits_are None = refl
bits_are (Some (Register name width input when)) = refl
bits_are (Some (Memory cells)) = refl
bits_are (Some (File cells)) = refl

abbrev is_of : Space → Option Space → Bool
is_of InMemory (Some InMemory) = true
is_of InFile (Some InFile) = true
is_of _ _ = false

abbrev shape_in : Space → List Shape → Shape
shape_in space [] = (None, 0, 0)
shape_in space (shape ∷ shapes) = if is_of space shape.0 then shape else shape_in space shapes

widths_are : (space : Space) (storages : List Storage) → width_in space storages ≡ (shape_in space (map shape_of storages)).1
widths_are InMemory [] = refl
widths_are InMemory (Register name width input when ∷ storages) = widths_are InMemory storages
widths_are InMemory (Memory cells ∷ storages) = refl
widths_are InMemory (File cells ∷ storages) = widths_are InMemory storages
widths_are InFile [] = refl
widths_are InFile (Register name width input when ∷ storages) = widths_are InFile storages
widths_are InFile (Memory cells ∷ storages) = widths_are InFile storages
widths_are InFile (File cells ∷ storages) = refl

sizes_are : (space : Space) (storages : List Storage) → size_in space storages ≡ (shape_in space (map shape_of storages)).2
sizes_are InMemory [] = refl
sizes_are InMemory (Register name width input when ∷ storages) = sizes_are InMemory storages
sizes_are InMemory (Memory cells ∷ storages) = refl
sizes_are InMemory (File cells ∷ storages) = sizes_are InMemory storages
sizes_are InFile [] = refl
sizes_are InFile (Register name width input when ∷ storages) = sizes_are InFile storages
sizes_are InFile (Memory cells ∷ storages) = sizes_are InFile storages
sizes_are InFile (File cells ∷ storages) = refl

-- ---- states

module _ (a b : Netlist) (alike : AreAlike a b) where
  same_bits : (id : ℕ) → storage_bits (slice_get a.storages id) ≡ storage_bits (slice_get b.storages id)
  same_bits id =
      bits_are (slice_get a.storages id)
      ∙ sym (ap bits_in (slice_get-map shape_of a.storages id))
      ∙ ap (λ (shapes : List Shape). bits_in (slice_get shapes id)) alike
      ∙ ap bits_in (slice_get-map shape_of b.storages id)
      ∙ sym (bits_are (slice_get b.storages id))

  same_widths : (space : Space) → width_in space a.storages ≡ width_in space b.storages
  same_widths space =
      widths_are space a.storages ∙ ap (λ (shapes : List Shape). (shape_in space shapes).1) alike ∙ sym (widths_are space b.storages)

  same_sizes : (space : Space) → size_in space a.storages ≡ size_in space b.storages
  same_sizes space =
      sizes_are space a.storages ∙ ap (λ (shapes : List Shape). (shape_in space shapes).2) alike ∙ sym (sizes_are space b.storages)

  same_many : length a.storages ≡ length b.storages
  same_many = sym (length-map a.storages shape_of) ∙ ap length alike ∙ length-map b.storages shape_of

  pub alike_state : (s : State) → IsState a s → IsState b s
  alike_state s h = record {
    regs = h.regs ∙ same_many;
    cells = λ space. h.cells space ∙ same_sizes space;
    fits = record {
      regs = λ id. subst (λ (w : ℕ). slice_index s.regs id < 2 ^ w) (same_bits id) (h.fits.regs id);
      cells = λ space x. subst (λ (w : ℕ). slice_index (held s space) x < 2 ^ w) (same_widths space) (h.fits.cells space x);
    };
  }
