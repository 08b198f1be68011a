-- In a state whose mode is v, each net has the same value in the netlist and in that of v.
use Rattle.std.proofs.Common.{◌≡◌, ◌==◌, ℕ, zero, suc, Bool, true, false, if◌then◌else◌, List, [], ◌∷◌, length, Option, Some, None, option_map, refl, sym, ◌∙◌, ap, slice_get, slice_index, eqb-true}
use Rattle.std.proofs.lemmas.Option.{slice_get-map}
use Rattle.std.proofs.lemmas.List.{length-map}
use Rattle.rec_bits.specs.Operators.{apply2_of, cat_of, sext_of}
use Rattle.net_model.specs.declared.hardware.Netlist.{Netlist}
use Rattle.net_model.specs.declared.hardware.Net.{Net}
use Rattle.net_model.specs.declared.hardware.Gate.{Gate}
use Rattle.net_model.specs.declared.hardware.Gate.TheVariants.{Word, Reg, Read, Const, Wire, Un, Bin, Slice, Cat, Zext, Sext, Case, Bus}
use Rattle.net_model.specs.declared.states.State.{State}
use Rattle.net_model.specs.Nets.{net_width, width_at, nets_of}
use Rattle.net_model.specs.Value.{gate_value, net_value, value_within, value_of}
use Rattle.net_model.proofs.Agree.{Agree, same_net}
use Rattle.net_model.specs.Fixed.{fixed_gate, fixed_net, fixed_of}

-- values that agree everywhere agree at some nets
pub agree_all : (f g : ℕ → ℕ) → ((n : ℕ) → f n ≡ g n) → (ms : List ℕ) → Agree f g ms
agree_all f g h [] = tt
agree_all f g h (m ∷ ms) = (h m, agree_all f g h ms)

module _ (netlist : Netlist) (mode v : ℕ) where
  abbrev pub fixed : Netlist
  fixed = fixed_of mode v netlist

  kept_width : (o : Option Net) → net_width (option_map (fixed_net mode v) o) ≡ net_width o
  kept_width None = refl
  kept_width (Some net) = refl

  -- widths stay
  pub same_width : (n : ℕ) → width_at fixed n ≡ width_at netlist n
  same_width n = ap net_width (slice_get-map (fixed_net mode v) netlist.nets n) ∙ kept_width (slice_get netlist.nets n)

  module _ (s : State) (is : slice_index s.regs mode ≡ v) (word : ℕ) where
    -- a gate of the one has the value of the gate of the other
    gate_is : (f : ℕ → ℕ) (width : ℕ) (gate : Gate) → gate_value f fixed s word width (fixed_gate mode v gate) ≡ gate_value f netlist s word width gate
    gate_is f width (Reg id) = by (id == mode) refl
      where
        by : (b : Bool) → (id == mode) ≡ b → gate_value f fixed s word width (if b then Const v else Reg id) ≡ slice_index s.regs id
        by true e = sym (ap (slice_index s.regs) (eqb-true id mode e) ∙ is)
        by false e = refl
    gate_is f width (Word code) = refl
    gate_is f width (Read memory addr) = refl
    gate_is f width (Const c) = refl
    gate_is f width (Wire a) = refl
    gate_is f width (Un op a) = refl
    gate_is f width (Bin op a b) = ap (λ w. apply2_of op w (f a) (f b)) (same_width a)
    gate_is f width (Slice of hi lo) = refl
    gate_is f width (Cat a b) = ap (λ w. cat_of (f a) (f b) w) (same_width b)
    gate_is f width (Zext a) = refl
    gate_is f width (Sext a) = ap (λ w. sext_of (f a) w width) (same_width a)
    gate_is f width (Case sel rows rest) = refl
    gate_is f width (Bus drivers) = refl

    net_is : (f : ℕ → ℕ) (o : Option Net) → net_value f fixed s word (option_map (fixed_net mode v) o) ≡ net_value f netlist s word o
    net_is f None = refl
    net_is f (Some net) = gate_is f net.width net.gate

    within_is : (k n : ℕ) → value_within k fixed s word n ≡ value_within k netlist s word n
    within_is zero n = refl
    within_is (suc k) n =
        ap (net_value (value_within k fixed s word) fixed s word) (slice_get-map (fixed_net mode v) netlist.nets n)
        ∙ net_is (value_within k fixed s word) (slice_get netlist.nets n)
        ∙ same_net (value_within k fixed s word) (value_within k netlist s word) netlist s word (slice_get netlist.nets n)
        (agree_all (value_within k fixed s word) (value_within k netlist s word) (λ m. within_is k m) (nets_of (slice_get netlist.nets n)))

    -- and so has each net
    pub value_is : (n : ℕ) → value_of fixed s word n ≡ value_of netlist s word n
    value_is n = ap (λ k. value_within k fixed s word n) (length-map netlist.nets (fixed_net mode v)) ∙ within_is (length netlist.nets) n
