use Rattle.std.proofs.Common.{arith, sym}
use Rattle.net_model.specs.declared.hardware.Space.TheVariants.{Memory as InMemory, File as InFile}
use Rattle.net_model.specs.Widths.{IsState}
use Rattle.net_model.proofs.KeptRules.{few_storages}
use Rattle.net_model.proofs.Memories.{few_cells}
use Rattle.state_text.proofs.writing.write_state.Goals as goal

pub put_registers-requires-clause-few : goal.put_registers-requires-clause-few
put_registers-requires-clause-few c = rw (c.as_slice.ensures, c.netlist.ensures.value) (omega (arith, few_storages c.checked-checked.result.now.netlist c.checked-checked.result.now.order c.netlist.ensures.kept))

-- neither the memory nor the file has too many cells
pub put_cells-requires : goal.put_cells-requires
put_cells-requires c =
    let h : IsState c.checked-checked.result.now.netlist c.args.sim.now.state = rw (sym c.checked-checked.ensures) at c.requires.state in
    let file = few_cells c.checked-checked.result.now.netlist c.checked-checked.result.now.order c.args.sim.now.state InFile c.netlist.ensures.kept h in
    let memory = few_cells c.checked-checked.result.now.netlist c.checked-checked.result.now.order c.args.sim.now.state InMemory c.netlist.ensures.kept h in
    omega (arith, file, memory)

pub put_cells-requires-2 : goal.put_cells-requires-2
put_cells-requires-2 c =
    let h : IsState c.checked-checked.result.now.netlist c.args.sim.now.state = rw (sym c.checked-checked.ensures) at c.requires.state in
    let file = few_cells c.checked-checked.result.now.netlist c.checked-checked.result.now.order c.args.sim.now.state InFile c.netlist.ensures.kept h in
    let memory = few_cells c.checked-checked.result.now.netlist c.checked-checked.result.now.order c.args.sim.now.state InMemory c.netlist.ensures.kept h in
    omega (arith, file, memory)
