-- In a state whose mode is v, a clock of the netlist is one of that of v.
use Rattle.std.proofs.Common.{◌≡◌, ◌==◌, ℕ, suc, Bool, true, false, if◌then◌else◌, List, [], ◌∷◌, length, map, Option, Some, None, refl, ◌∙◌, ap, slice_index, nat_lt}
use Rattle.std.specs.List.{position_or_len}
use Rattle.net_model.specs.declared.hardware.Netlist.{Netlist}
use Rattle.net_model.specs.declared.hardware.Net.{Net}
use Rattle.net_model.specs.declared.hardware.Storage.{Storage}
use Rattle.net_model.specs.declared.hardware.Storage.TheVariants.{Register, Memory, File}
use Rattle.net_model.specs.declared.hardware.Cells.{Cells}
use Rattle.net_model.specs.declared.hardware.Space.TheVariants.{Memory as InMemory, File as InFile}
use Rattle.net_model.specs.declared.hardware.Gate.{Gate}
use Rattle.net_model.specs.declared.hardware.Gate.TheVariants.{Word, Reg, Read, Const, Wire, Un, Bin, Slice, Cat, Zext, Sext, Case, Bus}
use Rattle.net_model.specs.declared.states.State.{State}
use Rattle.net_model.specs.Nets.{array_in}
use Rattle.net_model.specs.Value.{value_of}
use Rattle.net_model.specs.Clock.{enabled_count, gate_clashes, clash_in, is_enabled, next_reg, next_regs, written, outcome_of, step, word_at}
use Rattle.net_model.specs.Fixed.{fixed_gate, fixed_net, fixed_of}
use Rattle.net_model.specs.Modes.{ModesAreFixed}
use Rattle.net_model.proofs.Fixing.{value_is}

-- ---- what depends on the values of nets

module _ (f g : ℕ → ℕ) (h : (n : ℕ) → f n ≡ g n) where
  same_count : (drivers : List (ℕ × ℕ)) → enabled_count f drivers ≡ enabled_count g drivers
  same_count [] = refl
  same_count (driver ∷ drivers) = rw (h driver.1, same_count drivers) refl

  same_enabled : (when : Option ℕ) → is_enabled f when ≡ is_enabled g when
  same_enabled None = refl
  same_enabled (Some n) = ap (λ x. x == 1) (h n)

  same_reg : (storage : Storage) (old : ℕ) → next_reg f storage old ≡ next_reg g storage old
  same_reg (Register name width input when) old = rw (same_enabled when, h input) refl
  same_reg (Memory cells) old = refl
  same_reg (File cells) old = refl

  same_regs : (storages : List Storage) (olds : List ℕ) → next_regs f storages olds ≡ next_regs g storages olds
  same_regs [] olds = refl
  same_regs (storage ∷ storages) [] = refl
  same_regs (storage ∷ storages) (old ∷ olds) = rw (same_reg storage old, same_regs storages olds) refl

  same_written : (cells : Option Cells) (olds : List ℕ) → written f cells olds ≡ written g cells olds
  same_written None olds = refl
  same_written (Some cells) olds = rw (same_enabled cells.when, h cells.addr, h cells.value) refl

  -- ---- clashes

  module _ (mode v : ℕ) where
    gate_same : (gate : Gate) → gate_clashes f (fixed_gate mode v gate) ≡ gate_clashes g gate
    gate_same (Reg id) = by (id == mode)
      where
        by : (b : Bool) → gate_clashes f (if b then Const v else Reg id) ≡ false
        by true = refl
        by false = refl
    gate_same (Bus drivers) = ap (nat_lt 1) (same_count drivers)
    gate_same (Word code) = refl
    gate_same (Read memory addr) = refl
    gate_same (Const c) = refl
    gate_same (Wire a) = refl
    gate_same (Un op a) = refl
    gate_same (Bin op a b) = refl
    gate_same (Slice of hi lo) = refl
    gate_same (Cat a b) = refl
    gate_same (Zext a) = refl
    gate_same (Sext a) = refl
    gate_same (Case sel rows rest) = refl

    place_same : (nets : List Net) → position_or_len (λ (net : Net). gate_clashes f net.gate) (map (fixed_net mode v) nets) ≡ position_or_len (λ (net : Net). gate_clashes g net.gate) nets
    place_same [] = refl
    place_same (net ∷ nets) = rw (gate_same net.gate, place_same nets) refl

    many_same : (nets : List Net) → length (map (fixed_net mode v) nets) ≡ length nets
    many_same [] = refl
    many_same (net ∷ nets) = ap suc (many_same nets)

    pub clash_same : (nets : List Net) → clash_in f (map (fixed_net mode v) nets) ≡ clash_in g nets
    clash_same nets = rw (place_same nets, many_same nets) refl

  outcome_same : (netlist : Netlist) (mode v : ℕ) (s : State) (o : Option ℕ) → outcome_of f (fixed_of mode v netlist) s o ≡ outcome_of g netlist s o
  outcome_same netlist mode v s (Some bus) = refl
  outcome_same netlist mode v s None =
      rw (same_regs netlist.storages s.regs, same_written (array_in InMemory netlist.storages) s.cells, same_written (array_in InFile netlist.storages) s.file) refl

-- ---- the law

step_same : (netlist : Netlist) (mode v : ℕ) (s : State) → slice_index s.regs mode ≡ v → (word : ℕ) → step (fixed_of mode v netlist) s word ≡ step netlist s word
step_same netlist mode v s is word =
    ap (outcome_of (value_of (fixed_of mode v netlist) s word) (fixed_of mode v netlist) s) (clash_same (value_of (fixed_of mode v netlist) s word) (value_of netlist s word) (value_is netlist mode v s is word) mode v netlist.nets)
    ∙ outcome_same (value_of (fixed_of mode v netlist) s word) (value_of netlist s word) (value_is netlist mode v s is word) netlist mode v s (clash_in (value_of netlist s word) netlist.nets)

-- while the mode stands at v, the netlist is that of v
pub modes_are_fixed : ModesAreFixed
modes_are_fixed netlist None v s is = record {
  values = λ word n. refl;
  clash = λ word. refl;
  step = λ word. refl;
  clock = λ words. refl;
}
modes_are_fixed netlist (Some mode) v s is = record {
  values = λ word n. value_is netlist mode v s is word n;
  clash = λ word. clash_same (value_of (fixed_of mode v netlist) s word) (value_of netlist s word) (value_is netlist mode v s is word) mode v netlist.nets;
  step = λ word. step_same netlist mode v s is word;
  clock = λ words. step_same netlist mode v s is (word_at netlist words s);
}
