-- What the view of a netlist with a bank shows of both memories.
use Rattle.std.specs.Prelude.{◌+◌, ◌^◌, ◌≡◌, ◌≤◌}
use Rattle.net_model.specs.declared.hardware.Netlist.{Netlist}
use Rattle.net_model.specs.CheckedRules.{memory_addr_width}
use Rattle.net_model.specs.Nets.{memory_size, memory_width}
use Rattle.dual_command.specs.Inner.Viewed.{view_bank, view_bits}

-- its memory has the cells of both, and words hold an address and one bit more
pub record ShowsSizes (view : Netlist) : Type 0 where
  pub some : 1 ≤ view_bits view
  pub narrow : view_bits view ≤ 15
  pub least : view_bank view ≤ 2 ^ view_bits view
  pub addr : memory_addr_width view.storages ≡ view_bits view + 1
  pub size : memory_size view.storages ≡ 2 ^ view_bits view + view_bank view
  pub word : view_bits view + 2 ≤ memory_width view.storages
