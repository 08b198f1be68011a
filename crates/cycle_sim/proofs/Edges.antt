-- A clock, from the values of all nets.
use Rattle.std.proofs.Common.{length, ◌≡◌, ℕ, ◌^◌, ◌<◌, List, [], ◌∷◌, Option, Some, None, sym, ◌∙◌, ap, subst, refl, Bool, true, false, slice_get, slice_index, slice_set, zero, suc, IsTrue, ◌↔◌}
use Rattle.std.specs.List.{AllByRecursion}
use Rattle.std.proofs.lemmas.Nat.{pow_pos}
use Rattle.std.proofs.lemmas.List.{length-set}
use Rattle.rec_bits.proofs.Lists.{set_below}
use Rattle.net_model.specs.declared.hardware.Netlist.{Netlist}
use Rattle.net_model.specs.declared.hardware.Storage.{Storage}
use Rattle.net_model.specs.declared.hardware.Storage.TheVariants.{Register, Memory, File}
use Rattle.net_model.specs.declared.hardware.Cells.{Cells}
use Rattle.net_model.specs.declared.hardware.Space.{Space}
use Rattle.net_model.specs.declared.hardware.Space.TheVariants.{Memory as InMemory, File as InFile}
use Rattle.net_model.specs.declared.states.State.{State}
use Rattle.net_model.specs.Nets.{code_bits, memory_width, array_in, array_width, width_in, size_in, held}
use Rattle.net_model.specs.Value.{value_of}
use Rattle.net_model.specs.Widths.{IsTyped, IsState, WordFits}
use Rattle.net_model.specs.Clock.{clash_in, clock, next_cells, next_regs, outcome_of, next_state, word_at, Next, Clash}
use Rattle.net_model.specs.CheckedRules.{StorageKeeps}
use Rattle.net_model.proofs.Effects.{next_is_state}
use Rattle.cycle_sim.specs.declared.edge.Port.{Port}
use Rattle.cycle_sim.specs.Inner.Ports.{port_of, memory_port_width, HasPortWidth}

-- ---- the port is the memory's

pub port_width_is : (array : Option Cells) → memory_port_width (port_of array) ≡ array_width array
port_width_is None = refl
port_width_is (Some cells) = refl

pub has_port_width : (netlist : Netlist) (storages : List Storage) → AllByRecursion (StorageKeeps netlist) storages → HasPortWidth (port_of (array_in InMemory storages))
has_port_width netlist [] h = tt
has_port_width netlist (Register name width input when ∷ storages) h = has_port_width netlist storages h.1
has_port_width netlist (Memory cells ∷ storages) h = h.0.0
has_port_width netlist (File cells ∷ storages) h = has_port_width netlist storages h.1

-- ---- words

zero_fits : (netlist : Netlist) → WordFits netlist 0
zero_fits netlist = record { fits = λ code h. pow_pos (code_bits (slice_get netlist.codes code)) }

-- each word fits, and so does the 0 past them
pub words_fit_at : (netlist : Netlist) (words : List ℕ) → AllByRecursion (WordFits netlist) words → (k : ℕ) → WordFits netlist (slice_index words k)
words_fit_at netlist [] h k = zero_fits netlist
words_fit_at netlist (word ∷ words) h zero = h.0
words_fit_at netlist (word ∷ words) h (suc k) = words_fit_at netlist words h.1 k

-- ---- the clock

module _ (netlist : Netlist) (words : List ℕ) (s : State) where
  pub clocks_clash : (bus : ℕ) → Some bus ≡ clash_in (value_of netlist s (word_at netlist words s)) netlist.nets → clock netlist words s ≡ Clash bus
  clocks_clash bus e = ap (outcome_of (value_of netlist s (word_at netlist words s)) netlist s) (sym e)

  -- registers and cells, each clocked by itself, are the next state
  next_is : (regs cells file : List ℕ) → regs ≡ next_regs (value_of netlist s (word_at netlist words s)) netlist.storages s.regs → cells ≡ next_cells (value_of netlist s (word_at netlist words s)) InMemory netlist.storages s.cells → file ≡ next_cells (value_of netlist s (word_at netlist words s)) InFile netlist.storages s.file → record { regs = regs; cells = cells; file = file } ≡ next_state (value_of netlist s (word_at netlist words s)) netlist s
  next_is regs cells file r k f = rw (r, k, f) refl

  pub clocks_next : (regs cells file : List ℕ) → None ≡ clash_in (value_of netlist s (word_at netlist words s)) netlist.nets → regs ≡ next_regs (value_of netlist s (word_at netlist words s)) netlist.storages s.regs → cells ≡ next_cells (value_of netlist s (word_at netlist words s)) InMemory netlist.storages s.cells → file ≡ next_cells (value_of netlist s (word_at netlist words s)) InFile netlist.storages s.file → clock netlist words s ≡ Next (record { regs = regs; cells = cells; file = file })
  clocks_next regs cells file e r k f =
      rw (next_is regs cells file r k f) (ap (outcome_of (value_of netlist s (word_at netlist words s)) netlist s) (sym e))

  -- the next state fits
  pub next_fits : (regs cells file : List ℕ) → regs ≡ next_regs (value_of netlist s (word_at netlist words s)) netlist.storages s.regs → cells ≡ next_cells (value_of netlist s (word_at netlist words s)) InMemory netlist.storages s.cells → file ≡ next_cells (value_of netlist s (word_at netlist words s)) InFile netlist.storages s.file → IsTyped netlist → AllByRecursion (WordFits netlist) words → IsState netlist s → IsState netlist (record { regs = regs; cells = cells; file = file })
  next_fits regs cells file r k f typed w h =
      subst (λ (u : State). IsState netlist u) (sym (next_is regs cells file r k f))
      (next_is_state netlist s (word_at netlist words s) typed h (words_fit_at netlist words w _))

-- ---- one cell is set

abbrev with_cells : State → ℕ → ℕ → State
with_cells s address value = record s { cells = slice_set s.cells address value }

set_long : (netlist : Netlist) (s : State) (address value : ℕ) → IsState netlist s → (space : Space) → length (held (with_cells s address value) space) ≡ size_in space netlist.storages
set_long netlist s address value h InMemory = length-set s.cells address value ∙ h.cells InMemory
set_long netlist s address value h InFile = h.cells InFile

set_fit : (netlist : Netlist) (s : State) (address value : ℕ) → IsState netlist s → value < 2 ^ memory_width netlist.storages → (space : Space) (a : ℕ) → slice_index (held (with_cells s address value) space) a < 2 ^ width_in space netlist.storages
set_fit netlist s address value h k InMemory a = set_below (2 ^ memory_width netlist.storages) s.cells address value (h.fits.cells InMemory) k a
set_fit netlist s address value h k InFile a = h.fits.cells InFile a

pub set_is_state : (netlist : Netlist) (s : State) (address value : ℕ) → IsState netlist s → value < 2 ^ memory_width netlist.storages → IsState netlist (record s { cells = slice_set s.cells address value })
set_is_state netlist s address value h k = record {
  regs = h.regs;
  cells = set_long netlist s address value h;
  fits = record { regs = h.fits.regs; cells = set_fit netlist s address value h k };
}

-- a value that a cell of the port takes is one that a cell of the memory takes
pub told_of : (storages : List Storage) (port : Option Port) (value : ℕ) (r : Bool) → memory_port_width port ≡ memory_width storages → (IsTrue r ↔ (value < 2 ^ memory_port_width port)) → IsTrue r ↔ (value < 2 ^ memory_width storages)
told_of storages port value r p e = rw (sym p) e

pub refused : (r : Bool) (P Q : Type 0) → (IsTrue r ↔ Q) → r ≡ false → IsTrue false ↔ (P × Q)
refused r P Q e f = (λ h. cc h, λ pq. sym f ∙ e.1 pq.1)

pub taken : (r : Bool) (P Q : Type 0) → P → (IsTrue r ↔ Q) → r ≡ true → IsTrue true ↔ (P × Q)
taken r P Q p e f = (λ h. (p, e.0 f), λ pq. refl)
