use Rattle.std.proofs.Common.{◌≡◌, drop}
use Rattle.rec_bits.specs.Faults.{lesser_offset, least}
use Rattle.net_model.specs.NetFaults.{failing, name_at}
use Rattle.net_check.specs.Inner.Control.{passes}
use Rattle.net_check.proofs.control.least_broken.Given as goal

abbrev pub invariant-loop-net : goal.invariant-loop-net
invariant-loop-net l =
    lesser_offset l.found (least (failing (passes l.rule l.netlist) (name_at l.netlist) (drop l.net-index l.nets)))
    ≡ least (failing (passes l.rule l.netlist) (name_at l.netlist) l.nets)
