use Rattle.std.proofs.Common.{◌≡◌, ◌∙◌, ap}
use Rattle.net_model.specs.declared.hardware.Space.TheVariants.{Memory as InMemory, File as InFile}
use Rattle.net_model.specs.Nets.{array_in}
use Rattle.net_model.proofs.Spaces.{by_space}
use Rattle.cycle_sim.specs.Inner.Decoding.{buses_from, inlets_from, latches_by, port_by, source_in}
use Rattle.cycle_sim.specs.Inner.Ports.{port_of, memory_port_width}
use Rattle.cycle_sim.specs.Inner.Programs.{AreSources}
use Rattle.cycle_sim.proofs.Edges.{has_port_width, port_width_is}
use Rattle.cycle_sim.proofs.Programs.{is_program, width_by, port_fits_by}
use Rattle.cycle_sim.proofs.program.program_of.Goals as goal

pub returns-clause-program : goal.returns-clause-program
returns-clause-program c =
    let places : AreSources c.args.checked.now.netlist c.args.checked.now.order c.as_slice-sources.result.now = rw c.as_slice-sources.ensures c.in_ok-found.ensures in
    let l : c.in_ok-latches.latches ≡ latches_by (source_in c.as_slice-sources.result.now) c.args.checked.now.netlist.storages = rw (c.as_slice-storages.ensures, c.netlist-netlist.ensures.value) at c.in_ok-latches.ensures in
    let b : c.in_ok-buses.buses ≡ buses_from (source_in c.as_slice-sources.result.now) 0 c.args.checked.now.netlist.nets = rw (c.as_slice-nets.ensures, c.netlist-netlist.ensures.value) at c.in_ok-buses.ensures in
    let p : c.routed-port.result ≡ port_by (source_in c.as_slice-sources.result.now) (port_of (array_in InMemory c.args.checked.now.netlist.storages)) = rw (c.find_port.ensures, c.as_slice-storages.ensures, c.netlist-netlist.ensures.value) at c.routed-port.ensures in
    let q : c.routed-file_port.result ≡ port_by (source_in c.as_slice-sources.result.now) (port_of (array_in InFile c.args.checked.now.netlist.storages)) = rw (c.find_port-2.ensures, c.as_slice-storages.ensures, c.netlist-netlist.ensures.value) at c.routed-file_port.ensures in
    let i : c.in_ok-inlets.inlets ≡ inlets_from 0 c.args.checked.now.netlist.nets = rw (c.as_slice-nets.ensures, c.netlist-netlist.ensures.value) at c.in_ok-inlets.ensures in
    is_program c.args.checked.now.netlist c.args.checked.now.order c.netlist-netlist.ensures.kept.ordered c.netlist-netlist.ensures.sound.typed _ c.in_ok-instructions.ensures i c.as_slice-sources.result.now places l b (by_space _ p q)

pub returns-clause-width : goal.returns-clause-width
returns-clause-width c =
    let p : c.routed-port.result ≡ port_by (source_in c.as_slice-sources.result.now) (port_of (array_in InMemory c.args.checked.now.netlist.storages)) = rw (c.find_port.ensures, c.as_slice-storages.ensures, c.netlist-netlist.ensures.value) at c.routed-port.ensures in
    ap memory_port_width p ∙ width_by (source_in c.as_slice-sources.result.now) (port_of (array_in InMemory c.args.checked.now.netlist.storages)) ∙ port_width_is (array_in InMemory c.args.checked.now.netlist.storages)

pub returns-clause-fits : goal.returns-clause-fits
returns-clause-fits c =
    let p : c.routed-port.result ≡ port_by (source_in c.as_slice-sources.result.now) (port_of (array_in InMemory c.args.checked.now.netlist.storages)) = rw (c.find_port.ensures, c.as_slice-storages.ensures, c.netlist-netlist.ensures.value) at c.routed-port.ensures in
    rw p (port_fits_by _ _ (has_port_width c.args.checked.now.netlist _ c.netlist-netlist.ensures.kept.formed.storages))
