-- The value of a net in a state under an instruction word, by recursion over the nets that it
-- depends on. A register gives its entry, a read the cell at its address or 0 past the size, a
-- case the row of its selector's value or its rest, a bus its first enabled driver or 0. The
-- recursion counts down from the number of nets, so it has a value even where nets depend on
-- themselves.
use Rattle.std.specs.Prelude.{ℕ, zero, suc, ◌==◌, if◌then◌else◌, List, [], ◌∷◌, length, Option, Some, None, slice_get, slice_index}
use Rattle.rec_bits.specs.Operators.{apply1_of, apply2_of, slice_of, cat_of, sext_of}
use Rattle.net_model.specs.declared.hardware.Netlist.{Netlist}
use Rattle.net_model.specs.declared.hardware.Net.{Net}
use Rattle.net_model.specs.declared.hardware.Gate.{Gate}
use Rattle.net_model.specs.declared.hardware.Gate.TheVariants.{Word, Reg, Read, Const, Wire, Un, Bin, Slice, Cat, Zext, Sext, Case, Bus}
use Rattle.net_model.specs.declared.states.State.{State}
use Rattle.net_model.specs.Nets.{width_at, space_at, held}

-- a case: the value of the first row with this number, or of the rest
abbrev pub case_value : (ℕ → ℕ) → ℕ → List (ℕ × ℕ) → Option ℕ → ℕ
case_value v key [] None = 0
case_value v key [] (Some rest) = v rest
case_value v key (row ∷ rows) rest = if row.0 == key then v row.1 else case_value v key rows rest

-- a bus: the value of its first enabled driver, and 0 where none is enabled
abbrev pub bus_value : (ℕ → ℕ) → List (ℕ × ℕ) → ℕ
bus_value v [] = 0
bus_value v (driver ∷ drivers) = if v driver.1 == 1 then v driver.0 else bus_value v drivers

-- a gate of this width, where v gives the values of the nets that it names
abbrev pub gate_value : (ℕ → ℕ) → Netlist → State → ℕ → ℕ → Gate → ℕ
gate_value v netlist s word width (Word code) = word
gate_value v netlist s word width (Reg id) = slice_index s.regs id
gate_value v netlist s word width (Read memory addr) = slice_index (held s (space_at netlist memory)) (v addr)
gate_value v netlist s word width (Const c) = c
gate_value v netlist s word width (Wire a) = v a
gate_value v netlist s word width (Un op a) = apply1_of op width (v a)
gate_value v netlist s word width (Bin op a b) = apply2_of op (width_at netlist a) (v a) (v b)
gate_value v netlist s word width (Slice of hi lo) = slice_of (v of) hi lo
gate_value v netlist s word width (Cat a b) = cat_of (v a) (v b) (width_at netlist b)
gate_value v netlist s word width (Zext a) = v a
gate_value v netlist s word width (Sext a) = sext_of (v a) (width_at netlist a) width
gate_value v netlist s word width (Case sel rows rest) = case_value v (v sel) rows rest
gate_value v netlist s word width (Bus drivers) = bus_value v drivers

abbrev pub net_value : (ℕ → ℕ) → Netlist → State → ℕ → Option Net → ℕ
net_value v netlist s word None = 0
net_value v netlist s word (Some net) = gate_value v netlist s word net.width net.gate

-- the value of a net that depends on others through at most so many gates; where nets depend on
-- themselves, it ends with 0
abbrev pub value_within : ℕ → Netlist → State → ℕ → ℕ → ℕ
value_within zero netlist s word n = 0
value_within (suc k) netlist s word n =
    net_value (value_within k netlist s word) netlist s word (slice_get netlist.nets n)

-- the value of a net: where none depends on itself, as many gates as there are nets are enough
abbrev pub value_of : Netlist → State → ℕ → ℕ → ℕ
value_of netlist s word n = value_within (length netlist.nets) netlist s word n
