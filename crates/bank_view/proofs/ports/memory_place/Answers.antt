use Rattle.bank_view.proofs.Arrays.{memory_here}
use Rattle.bank_view.proofs.ports.memory_place.Goals as goal

pub returns : goal.returns
returns c = rw (c.storage_number.ensures, c.bank_place.ensures, c.place_in-memory.ensures, c.as_slice.ensures) (memory_here c.args.netlist.now.storages)
