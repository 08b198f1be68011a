-- What the parts of the compiler tell one another of a netlist with a bank, of which they have the
-- view alone.
use Rattle.std.specs.Prelude.{ℕ, ◌-◌, ◌^◌, Bool, List, IsTrue}
use Rattle.net_model.specs.declared.hardware.Netlist.{Netlist}
use Rattle.net_model.specs.CheckedRules.{memory_addr_width}
use Rattle.net_model.specs.Editions.{is_banked}
use Rattle.net_model.specs.ModeRules.{Moded}
use Rattle.net_model.specs.Nets.{memory_size}
use Rattle.net_front.specs.Fronts.{IsViewOf}
use Rattle.src_model.specs.declared.typed.Typed.{Typed}
use Rattle.src_model.specs.Written.{model_of_program}
use Rattle.dual_command.specs.RightDual.{DualTask}

-- this netlist has a bank and keeps all rules, and its view was checked
pub record IsSeen (n : Netlist) (moded : Moded) : Type 0 where
  pub banked : IsTrue (is_banked n.edition)
  pub is : IsViewOf n moded

-- there is one of which this is the view
pub record HasSeen (moded : Moded) : Type 0 where
  pub netlist : Netlist
  pub is : IsSeen netlist moded

-- what is said of each
abbrev pub OfSeen : Moded → (Netlist → Type 0) → Type 0
OfSeen moded Said = (n : Netlist) → IsSeen n moded → Said n

-- the bits of an address of the memory, and the bank's cells, as the view shows them
abbrev pub view_bits : Netlist → ℕ
view_bits view = memory_addr_width view.storages - 1

abbrev pub view_bank : Netlist → ℕ
view_bank view = memory_size view.storages - 2 ^ view_bits view

-- the task of a netlist and of a program in parts that was read
abbrev pub task_of : Netlist → Typed → List Bool → DualTask
task_of n typed in_bank = record {
  netlist = n;
  width = typed.width;
  program = model_of_program typed.program;
  in_bank = in_bank;
}
