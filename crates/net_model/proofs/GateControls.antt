-- What control is for one gate of a netlist.
use Rattle.std.proofs.Common.{ℕ, ◌≡◌, ◌==◌, ◌||◌, Bool, true, false, Some, slice_get}
use Rattle.std.proofs.lemmas.Bool.{eqb-true}
use Rattle.net_model.specs.declared.hardware.Netlist.{Netlist}
use Rattle.net_model.specs.declared.hardware.Net.{Net}
use Rattle.net_model.specs.Nets.{width_at}
use Rattle.net_model.specs.Symbolic.{is_static}
use Rattle.net_model.specs.Control.{gate_enables, gate_selectors, is_selector, GateControlled, IsControlled}
use Rattle.net_model.proofs.Offsets.{gathered_at}

pub gate_controlled : (netlist : Netlist) → IsControlled netlist → (n : ℕ) (net : Net) → slice_get netlist.nets n ≡ Some net → GateControlled netlist net.gate
gate_controlled netlist c n net at = record {
  enables = gathered_at (λ m. is_static netlist m ≡ true) (λ (net : Net). gate_enables net.gate) netlist.nets n net at c.enables;
  selectors = gathered_at (λ m. is_selector netlist m ≡ true) (λ (net : Net). gate_selectors net.gate) netlist.nets n net at c.selectors;
}

-- a selector that isn't static is one bit wide
pub is_bit : (netlist : Netlist) (sel : ℕ) → is_selector netlist sel ≡ true → is_static netlist sel ≡ false → width_at netlist sel ≡ 1
is_bit netlist sel = by (is_static netlist sel) (width_at netlist sel)
  where
    by : (a : Bool) (w : ℕ) → (a || (w == 1)) ≡ true → a ≡ false → w ≡ 1
    by true w h e = cc
    by false w h e = eqb-true w 1 h
