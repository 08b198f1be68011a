-- The next state fits the netlist.
use Rattle.std.proofs.Common.{◌≡◌, ℕ, ◌^◌, ◌<◌, List, [], ◌∷◌, Some, length, ap, subst, sym, ◌∙◌, refl, Bool, true, false, cond, slice_get, slice_index, slice_set, zero, suc, Option, None}
use Rattle.std.specs.List.{AllByRecursion}
use Rattle.std.proofs.lemmas.Nat.{pow_pos}
use Rattle.std.proofs.lemmas.List.{length-set}
use Rattle.rec_bits.proofs.Booleans.{cond_below}
use Rattle.rec_bits.proofs.Lists.{set_below}
use Rattle.net_model.specs.declared.hardware.Netlist.{Netlist}
use Rattle.net_model.specs.declared.hardware.Storage.{Storage}
use Rattle.net_model.specs.declared.hardware.Storage.TheVariants.{Register, Memory, File}
use Rattle.net_model.specs.declared.hardware.Cells.{Cells}
use Rattle.net_model.specs.declared.hardware.Space.{Space}
use Rattle.net_model.specs.declared.hardware.Space.TheVariants.{Memory as InMemory, File as InFile}
use Rattle.net_model.specs.declared.states.State.{State}
use Rattle.net_model.specs.Nets.{width_at, array_in, array_width, held, width_in, storage_bits}
use Rattle.net_model.specs.Widths.{ArrayFits, IsState, IsTyped, StorageFits, ValuesFit}
use Rattle.net_model.specs.Clock.{written, next_cells, next_reg, next_regs, next_state, is_enabled}

-- what feeds the cells of a space fits
abbrev ArrayOkIn : Netlist → Option Cells → Type 0
ArrayOkIn netlist None = Unit {0}
ArrayOkIn netlist (Some cells) = ArrayFits netlist cells

array_ok_in : (netlist : Netlist) (space : Space) (storages : List Storage) → AllByRecursion (StorageFits netlist) storages → ArrayOkIn netlist (array_in space storages)
array_ok_in netlist space [] t = tt
array_ok_in netlist InMemory (Register name width input when ∷ storages) t = array_ok_in netlist InMemory storages t.1
array_ok_in netlist InMemory (Memory cells ∷ storages) t = t.0
array_ok_in netlist InMemory (File cells ∷ storages) t = array_ok_in netlist InMemory storages t.1
array_ok_in netlist InFile (Register name width input when ∷ storages) t = array_ok_in netlist InFile storages t.1
array_ok_in netlist InFile (Memory cells ∷ storages) t = array_ok_in netlist InFile storages t.1
array_ok_in netlist InFile (File cells ∷ storages) t = t.0

module _ (netlist : Netlist) (v : ℕ → ℕ) (fit : ValuesFit netlist v) where
  at_width : (m width : ℕ) → width_at netlist m ≡ width → v m < 2 ^ width
  at_width m width e = subst (λ w. v m < 2 ^ w) e (fit.fits m)

  reg_fits : (storage : Storage) (old : ℕ) → StorageFits netlist storage → old < 2 ^ storage_bits (Some storage) → next_reg v storage old < 2 ^ storage_bits (Some storage)
  reg_fits (Register name width input when) old t h = cond_below (is_enabled v when) _ _ _ (at_width input width t.0.1) h
  reg_fits (Memory cells) old t h = h
  reg_fits (File cells) old t h = h

  pub regs_fit : (storages : List Storage) (regs : List ℕ) → AllByRecursion (StorageFits netlist) storages → ((id : ℕ) → slice_index regs id < 2 ^ storage_bits (slice_get storages id)) → (id : ℕ) → slice_index (next_regs v storages regs) id < 2 ^ storage_bits (slice_get storages id)
  regs_fit [] regs t h id = h id
  regs_fit (storage ∷ storages) [] t h id = pow_pos (storage_bits (slice_get (storage ∷ storages) id))
  regs_fit (storage ∷ storages) (old ∷ olds) t h zero = reg_fits storage old t.0 (h 0)
  regs_fit (storage ∷ storages) (old ∷ olds) t h (suc id) = regs_fit storages olds t.1 (λ k. h (suc k)) id

  pub length-next_regs : (storages : List Storage) (regs : List ℕ) → length (next_regs v storages regs) ≡ length regs
  length-next_regs [] regs = refl
  length-next_regs (storage ∷ storages) [] = refl
  length-next_regs (storage ∷ storages) (old ∷ olds) = ap suc (length-next_regs storages olds)

  written_fits : (array : Option Cells) (olds : List ℕ) → ArrayOkIn netlist array → ((a : ℕ) → slice_index olds a < 2 ^ array_width array) → (a : ℕ) → slice_index (written v array olds) a < 2 ^ array_width array
  written_fits None olds t h a = h a
  written_fits (Some cells) olds t h a = by (is_enabled v cells.when) a
    where
      by : (b : Bool) (a : ℕ) → slice_index (cond b (slice_set olds (v cells.addr) (v cells.value)) olds) a < 2 ^ cells.width
      by true a = set_below (2 ^ cells.width) olds (v cells.addr) (v cells.value) h (at_width cells.value cells.width t.0.1) a
      by false a = h a

  pub cells_fit : (space : Space) (storages : List Storage) (olds : List ℕ) → AllByRecursion (StorageFits netlist) storages → ((a : ℕ) → slice_index olds a < 2 ^ width_in space storages) → (a : ℕ) → slice_index (next_cells v space storages olds) a < 2 ^ width_in space storages
  cells_fit space storages olds t h a = written_fits (array_in space storages) olds (array_ok_in netlist space storages t) h a

pub length-written : (v : ℕ → ℕ) (array : Option Cells) (olds : List ℕ) → length (written v array olds) ≡ length olds
length-written v None olds = refl
length-written v (Some cells) olds = by_when (is_enabled v cells.when)
  where
    by_when : (b : Bool) → length (cond b (slice_set olds (v cells.addr) (v cells.value)) olds) ≡ length olds
    by_when true = length-set olds (v cells.addr) (v cells.value)
    by_when false = refl

-- what the next state holds in a space
pub held_next : (v : ℕ → ℕ) (netlist : Netlist) (s : State) (space : Space) → held (next_state v netlist s) space ≡ next_cells v space netlist.storages (held s space)
held_next v netlist s InMemory = refl
held_next v netlist s InFile = refl

-- where the values of nets fit, the next state does
pub next_fits : (netlist : Netlist) (v : ℕ → ℕ) → ValuesFit netlist v → (s : State) → IsTyped netlist → IsState netlist s → IsState netlist (next_state v netlist s)
next_fits netlist v fit s t h = record {
  regs = length-next_regs netlist v fit netlist.storages s.regs ∙ h.regs;
  cells = λ space. ap length (held_next v netlist s space) ∙ length-written v (array_in space netlist.storages) (held s space) ∙ h.cells space;
  fits = record {
    regs = λ id. regs_fit netlist v fit netlist.storages s.regs t.storages h.fits.regs id;
    cells = λ space a. subst (λ (olds : List ℕ). slice_index olds a < 2 ^ width_in space netlist.storages) (sym (held_next v netlist s space)) (cells_fit netlist v fit space netlist.storages (held s space) t.storages (h.fits.cells space) a);
  };
}
