-- States that fit a netlist, with the program counter at 0.
use Rattle.std.proofs.Common.{ap, subst, ◌≡◌, ℕ, zero, suc, ◌^◌, ◌<◌, ◌≤◌, List, [], ◌∷◌, length, get_or, Option, refl, sym, ◌∙◌, arith}
use Rattle.std.proofs.Math.ListN.{replicate, set}
use Rattle.std.proofs.lemmas.List.{length-replicate, get_or-set_other, length-set}
use Rattle.std.proofs.Math.Nat.{pow-le-pow_right}
use Rattle.std.specs.Prelude.{slice_get}
use Rattle.rec_bits.proofs.Lists.{zeros_at}
use Rattle.net_model.specs.declared.hardware.Netlist.{Netlist}
use Rattle.net_model.specs.declared.states.State.{State}
use Rattle.net_model.specs.declared.hardware.Space.{Space}
use Rattle.net_model.specs.declared.hardware.Space.TheVariants.{Memory as InMemory, File as InFile}
use Rattle.net_model.proofs.Blanks.{blank_state}
use Rattle.net_model.proofs.Spaces.{by_space}
use Rattle.net_model.specs.Widths.{StateFits}
use Rattle.net_model.specs.Nets.{counter_of, size_in, width_in, held, storage_bits}
use Rattle.net_model.specs.MemoryText.{blank, with_cell}
use Rattle.net_model.proofs.Storages.{register_within}
use Rattle.state_text.specs.declared.setting.Setting.{Setting}
use Rattle.state_text.specs.declared.setting.Setting.TheVariants.{Entry, Cell}
use Rattle.state_text.specs.Settings.{IsStartState}
use Rattle.state_text.specs.Inner.Settings.{with_setting, SettingFits, IsWithin}

pub blank_start : (netlist : Netlist) → IsStartState netlist (blank netlist.storages)
blank_start netlist = record {
  state = blank_state netlist;
  counter = zeros_at (length netlist.storages) (counter_of netlist.codes);
}

-- ---- what a setting keeps

set_below : (xs : List ℕ) (i j v : ℕ) (bound : ℕ → ℕ) → ((k : ℕ) → get_or xs k 0 < bound k) → v < bound i → get_or (set xs i v) j 0 < bound j
set_below [] i j v bound h k = h j
set_below (x ∷ xs) zero zero v bound h k = k
set_below (x ∷ xs) zero (suc j) v bound h k = h (suc j)
set_below (x ∷ xs) (suc i) zero v bound h k = h 0
set_below (x ∷ xs) (suc i) (suc j) v bound h k = set_below xs i j v (λ n. bound (suc n)) (λ n. h (suc n)) k

pub regs_stay : (s : State) (space : Space) (address value : ℕ) → (with_cell s space address value).regs ≡ s.regs
regs_stay s InMemory address value = refl
regs_stay s InFile address value = refl

same_regs : (s : State) (space : Space) (address value : ℕ) → length (with_cell s space address value).regs ≡ length s.regs
same_regs s space address value = ap length (regs_stay s space address value)

cell_long : (s : State) (space other : Space) (address value : ℕ) → length (held (with_cell s space address value) other) ≡ length (held s other)
cell_long s InMemory InMemory address value = length-set s.cells address value
cell_long s InMemory InFile address value = refl
cell_long s InFile InMemory address value = refl
cell_long s InFile InFile address value = length-set s.file address value

cell_fits : (netlist : Netlist) (s : State) (space other : Space) (address value : ℕ) → StateFits netlist s → value < 2 ^ width_in space netlist.storages → (a : ℕ) → get_or (held (with_cell s space address value) other) a 0 < 2 ^ width_in other netlist.storages
cell_fits netlist s InMemory InMemory address value h f a = set_below s.cells address a value (λ n. 2 ^ width_in InMemory netlist.storages) (h.cells InMemory) f
cell_fits netlist s InMemory InFile address value h f a = h.cells InFile a
cell_fits netlist s InFile InMemory address value h f a = h.cells InMemory a
cell_fits netlist s InFile InFile address value h f a = set_below s.file address a value (λ n. 2 ^ width_in InFile netlist.storages) (h.cells InFile) f

pub keeps_start : (netlist : Netlist) (still : Option ℕ) (s : State) (setting : Setting) → IsStartState netlist s → SettingFits netlist still setting → IsStartState netlist (with_setting s setting)
keeps_start netlist still s (Entry id value) h f = record {
  state = record {
    regs = length-set s.regs id value ∙ h.state.regs;
    cells = h.state.cells;
    fits = record {
      regs = λ (j : ℕ). set_below s.regs id j value (λ n. 2 ^ storage_bits (slice_get netlist.storages n)) h.state.fits.regs f.3;
      cells = h.state.fits.cells;
    };
  };
  counter = get_or-set_other s.regs id (counter_of netlist.codes) value 0 (λ e. f.1 (sym e)) ∙ h.counter;
}
keeps_start netlist still s (Cell space address value) h f = record {
  state = record {
    regs = same_regs s space address value ∙ h.state.regs;
    cells = λ other. cell_long s space other address value ∙ h.state.cells other;
    fits = record {
      regs = λ (j : ℕ). subst (λ (regs : List ℕ). get_or regs j 0 < 2 ^ storage_bits (slice_get netlist.storages j)) (sym (regs_stay s space address value)) (h.state.fits.regs j);
      cells = λ other. cell_fits netlist s space other address value h.state.fits f.1;
    };
  };
  counter = ap (λ (regs : List ℕ). get_or regs (counter_of netlist.codes) 0) (regs_stay s space address value) ∙ h.counter;
}

pub is_within : (netlist : Netlist) (still : Option ℕ) (s : State) (setting : Setting) → IsStartState netlist s → SettingFits netlist still setting → IsWithin s setting
is_within netlist still s (Entry id value) h f = omega (arith, register_within netlist.storages id f.0, h.state.regs)
is_within netlist still s (Cell space address value) h f = omega (arith, f.0, h.state.cells space)
