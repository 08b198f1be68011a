use Rattle.std.proofs.Common.{◌≡◌, sym, Some, None}
use Rattle.rec_bits.specs.Faults.{least}
use Rattle.net_model.specs.NetFaults.{file_addr_offsets}
use Rattle.net_model.proofs.Offsets.{all_pass}
use Rattle.net_check.proofs.control.file_fault.Goals as goal

pub returns-in-Some : goal.returns-in-Some
returns-in-Some c =
    let broken : Some c.in-Some.at ≡ least (file_addr_offsets c.args.netlist.now) = rw (c.as_slice.ensures, c.in_ok-addrs.ensures) at c.in-Some.ensures in
    (c.requires.acyclic, c.requires.roles, c.requires.kept.enables, c.requires.kept.control, c.requires.kept.selectors, sym broken)

pub returns : goal.returns
returns c =
    let static : None ≡ least (file_addr_offsets c.args.netlist.now) = rw (c.as_slice.ensures, c.in_ok-addrs.ensures) at c.in-None.ensures in
    all_pass _ _ _ (sym static)
