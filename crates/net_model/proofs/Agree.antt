-- The value of a gate depends on the nets that it names alone.
use Rattle.std.proofs.Common.{◌≡◌, ℕ, List, [], ◌∷◌, Option, Some, None, ◌∙◌, ap, refl, slice_index}
use Rattle.std.specs.List.{AllByRecursion}
use Rattle.rec_bits.specs.Operators.{apply1_of, slice_of, sext_of}
use Rattle.net_model.specs.declared.hardware.Netlist.{Netlist}
use Rattle.net_model.specs.declared.hardware.Net.{Net}
use Rattle.net_model.specs.declared.hardware.Gate.{Gate}
use Rattle.net_model.specs.declared.hardware.Gate.TheVariants.{Word, Reg, Read, Const, Wire, Un, Bin, Slice, Cat, Zext, Sext, Case, Bus}
use Rattle.net_model.specs.declared.states.State.{State}
use Rattle.net_model.specs.Nets.{width_at, row_nets, driver_nets, gate_nets, nets_of, space_at, held}
use Rattle.net_model.specs.Value.{case_value, bus_value, gate_value, net_value}

-- two values that agree at these nets
abbrev pub Agree : (ℕ → ℕ) → (ℕ → ℕ) → List ℕ → Type 0
Agree v w ms = AllByRecursion (λ m. v m ≡ w m) ms

module _ (v w : ℕ → ℕ) where
  same_case : (key : ℕ) (rows : List (ℕ × ℕ)) (rest : Option ℕ) → Agree v w (row_nets rows rest) → case_value v key rows rest ≡ case_value w key rows rest
  same_case key [] None h = refl
  same_case key [] (Some n) h = h.0
  same_case key (row ∷ rows) rest h = rw (h.0, same_case key rows rest h.1) refl

  same_bus : (drivers : List (ℕ × ℕ)) → Agree v w (driver_nets drivers) → bus_value v drivers ≡ bus_value w drivers
  same_bus [] h = refl
  same_bus (driver ∷ drivers) h = rw (h.0, h.1.0, same_bus drivers h.1.1) refl

  pub same_gate : (netlist : Netlist) (s : State) (word width : ℕ) (gate : Gate) → Agree v w (gate_nets gate) → gate_value v netlist s word width gate ≡ gate_value w netlist s word width gate
  same_gate netlist s word width (Word code) h = refl
  same_gate netlist s word width (Reg id) h = refl
  same_gate netlist s word width (Read memory addr) h = ap (slice_index (held s (space_at netlist memory))) h.0
  same_gate netlist s word width (Const c) h = refl
  same_gate netlist s word width (Wire a) h = h.0
  same_gate netlist s word width (Un op a) h = ap (apply1_of op width) h.0
  same_gate netlist s word width (Bin op a b) h = cc (h.0, h.1.0)
  same_gate netlist s word width (Slice of hi lo) h = ap (λ n. slice_of n hi lo) h.0
  same_gate netlist s word width (Cat a b) h = cc (h.0, h.1.0)
  same_gate netlist s word width (Zext a) h = h.0
  same_gate netlist s word width (Sext a) h = ap (λ n. sext_of n (width_at netlist a) width) h.0
  same_gate netlist s word width (Case sel rows rest) h =
      ap (λ n. case_value v n rows rest) h.0 ∙ same_case (w sel) rows rest h.1
  same_gate netlist s word width (Bus drivers) h = same_bus drivers h

  pub same_net : (netlist : Netlist) (s : State) (word : ℕ) (net : Option Net) → Agree v w (nets_of net) → net_value v netlist s word net ≡ net_value w netlist s word net
  same_net netlist s word None h = refl
  same_net netlist s word (Some net) h = same_gate netlist s word net.width net.gate h
