-- A netlist with a mode register, and what it is while the mode stands at one number. The *mode*
-- of a state is what the mode register holds, and 0 in a netlist without one. What a netlist is in
-- a mode v: the output of the mode register is the constant v, every other gate and all storages
-- and codes stay, and it is of the first edition and has no mode; a netlist without a mode
-- register is itself.
use Rattle.std.specs.Prelude.{ℕ, ◌==◌, ◌^◌, if◌then◌else◌, map, Option, Some, None, slice_get, slice_index}
use Rattle.net_model.specs.declared.hardware.Netlist.{Netlist}
use Rattle.net_model.specs.declared.hardware.Net.{Net}
use Rattle.net_model.specs.declared.hardware.Gate.{Gate}
use Rattle.net_model.specs.declared.hardware.Gate.TheVariants.{Reg, Const}
use Rattle.net_model.specs.declared.states.State.{State}
use Rattle.net_model.specs.Nets.{storage_bits}

-- the mode in a state: what the mode register holds, and 0 where there is none
abbrev pub mode_in : Option ℕ → State → ℕ
mode_in None s = 0
mode_in (Some id) s = slice_index s.regs id

-- how many numbers the mode may be: 1 where there is no mode register
abbrev pub mode_count : Option ℕ → Netlist → ℕ
mode_count None netlist = 1
mode_count (Some mode) netlist = 2 ^ storage_bits (slice_get netlist.storages mode)

-- the output of the mode register is a constant, and every other gate stays
abbrev pub fixed_gate : ℕ → ℕ → Gate → Gate
fixed_gate mode value (Reg id) = if id == mode then Const value else Reg id
fixed_gate mode value gate = gate

abbrev pub fixed_net : ℕ → ℕ → Net → Net
fixed_net mode value net = record {
  width = net.width;
  name_at = net.name_at;
  gate = fixed_gate mode value net.gate;
}

-- the netlist with this value in place of the output of its mode register: one of edition 1, without
-- a mode
abbrev pub fixed_of : ℕ → ℕ → Netlist → Netlist
fixed_of mode value netlist = record {
  nets = map (fixed_net mode value) netlist.nets;
  storages = netlist.storages;
  codes = netlist.codes;
  edition = 1;
  special = None;
}

-- what a netlist is in a mode: itself where it has no mode register
abbrev pub in_mode : Option ℕ → ℕ → Netlist → Netlist
in_mode None value netlist = netlist
in_mode (Some mode) value netlist = fixed_of mode value netlist
