-- What is told of each net by its gate and by what is told of the nets that it names.
use Rattle.std.specs.Prelude.{ℕ, not, List, slice_index_or, Bool, true, false}
use Rattle.rec_bits.specs.declared.operator.Op2.{Op2}
use Rattle.rec_bits.specs.declared.operator.Op2.TheVariants.{And, Or, Xor, Eq}
use Rattle.net_model.specs.declared.hardware.Netlist.{Netlist}
use Rattle.net_model.specs.declared.hardware.Gate.{Gate}
use Rattle.net_model.specs.Symbolic.{reads_state, is_static}
use Rattle.net_model.specs.CheckedRules.{is_control_gate, is_control}
use Rattle.net_model.specs.declared.flags.Property.{Property}
use Rattle.net_model.specs.declared.flags.Property.TheVariants.{Static, Control}

-- the flag of a net, which is set past the last one
abbrev pub flag_at : List Bool → ℕ → Bool
flag_at flags n = slice_index_or flags n true

-- the operators of two operands that control may use
abbrev pub is_control_pair : Op2 → Bool
is_control_pair And = true
is_control_pair Or = true
is_control_pair Xor = true
is_control_pair Eq = true
is_control_pair _ = false

-- what the gate itself has to be
abbrev pub is_local : Property → Gate → Bool
is_local Static gate = not (reads_state gate)
is_local Control gate = is_control_gate gate

-- whether a net has the property
abbrev pub has : Property → Netlist → ℕ → Bool
has Static netlist n = is_static netlist n
has Control netlist n = is_control netlist n
