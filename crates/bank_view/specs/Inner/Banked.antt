-- What a netlist with a bank keeps, said of what feeds its memory and its bank.
use Rattle.std.specs.Prelude.{ℕ, ◌+◌, ◌^◌, ◌≡◌, ◌≤◌, List, slice_get}
use Rattle.net_model.specs.declared.hardware.Netlist.{Netlist}
use Rattle.net_model.specs.declared.hardware.Space.TheVariants.{File as InFile}
use Rattle.net_model.specs.Nets.{HasCells}
use Rattle.net_model.specs.CheckedRules.{IsAddressed, count_in, memory_count}
use Rattle.bank_view.specs.Banks.{others, memory_port, bank_place, bank_port, addr_bits}

-- the bank is the only file, beside one memory of its widths that has a cell for each address
pub record IsBeside (d : Netlist) : Type 0 where
  pub bank : HasCells InFile (slice_get d.storages (bank_place d))
  pub lone : count_in InFile d.storages ≡ 1
  pub memories : memory_count d.storages ≡ 1
  pub one : memory_count (others d) ≡ 1
  pub none : count_in InFile (others d) ≡ 0
  pub width : (bank_port d).width ≡ (memory_port d).width
  pub addresses : (bank_port d).addr_width ≡ addr_bits d
  pub size : IsAddressed (bank_port d).size (addr_bits d)
  pub full : (memory_port d).size ≡ 2 ^ addr_bits d
  pub few : addr_bits d ≤ 15
  pub narrow : addr_bits d + 2 ≤ (memory_port d).width
