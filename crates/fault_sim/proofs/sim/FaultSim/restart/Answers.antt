use Rattle.std.proofs.Common.{◌∙◌, ap, length, sym}
use Rattle.net_model.specs.declared.hardware.Space.TheVariants.{Memory as InMemory, File as InFile}
use Rattle.net_model.specs.Widths.{IsState}
use Rattle.fault_sim.proofs.sim.FaultSim.restart.Goals as goal

pub copy-requires-2 : goal.copy-requires-2
copy-requires-2 c =
    let start : IsState c.self.inside.checked.now.netlist c.args.start.now = rw (← c.self.view_is) at c.requires.start in
    c.self.invariant.state.cells InMemory ∙ sym (start.cells InMemory) ∙ sym (ap length c.as_slice-2.ensures)

pub copy-requires-3 : goal.copy-requires-3
copy-requires-3 c =
    let start : IsState c.self.inside.checked.now.netlist c.args.start.now = rw (← c.self.view_is) at c.requires.start in
    c.self.invariant.state.cells InFile ∙ sym (start.cells InFile) ∙ sym (ap length c.as_slice-3.ensures)
