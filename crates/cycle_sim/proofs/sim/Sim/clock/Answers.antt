use Rattle.std.proofs.Common.{◌≡◌, slice_index, length, ◌∙◌, Some, None, refl, arith}
use Rattle.net_model.specs.declared.hardware.Space.TheVariants.{Memory as InMemory, File as InFile}
use Rattle.net_model.specs.Value.{value_of}
use Rattle.net_model.specs.Clock.{next_regs, next_cells, word_at}
use Rattle.cycle_sim.specs.Clocks.{written_cell}
use Rattle.cycle_sim.specs.Inner.Operations.{filled, run_of}
use Rattle.cycle_sim.specs.Inner.Ports.{cell_by, cells_by}
use Rattle.cycle_sim.specs.Inner.Programs.{clash_by, regs_by, RunsAs}
use Rattle.cycle_sim.proofs.Edges.{clocks_clash, clocks_next, next_fits}
use Rattle.cycle_sim.proofs.Programs.{ran, still_running}
use Rattle.cycle_sim.proofs.sim.Sim.clock.Goals as goal

pub run-requires-clause-within : goal.run-requires-clause-within
run-requires-clause-within c = rw c.self.invariant.room.long c.self.invariant.decoded.within

pub run-requires-clause-ready : goal.run-requires-clause-ready
run-requires-clause-ready c = rw c.self.invariant.room.long c.self.invariant.decoded.ready

pub clock_cells-self-inside-requires : goal.clock_cells-self-inside-requires
clock_cells-self-inside-requires c = omega (arith, c.self.invariant.few InMemory, c.self.invariant.state.cells InMemory)

pub clock_cells-written-requires : goal.clock_cells-written-requires
clock_cells-written-requires c = omega (arith, c.self.invariant.few InFile, c.self.invariant.state.cells InFile)

pub invariant_of-self : goal.invariant_of-self
invariant_of-self c =
    let e : c.run.new.values.items ≡ run_of c.self.inside.state c.self.inside.program.instructions (filled c.self.inside.state.regs (word_at c.self.inside.checked.now.netlist c.self.inside.words c.self.inside.state) c.self.inside.program.inlets c.self.inside.values.items) = rw (c.word_of-word.ensures, c.as_slice-words.ensures) at c.run.ensures in
    let f : RunsAs c.self.inside.checked.now.netlist c.self.inside.state (word_at c.self.inside.checked.now.netlist c.self.inside.words c.self.inside.state) c.run.new.values.items c.self.inside.program = ran _ _ _ _ _ c.self.invariant _ e in
    still_running _ _ _ _ _ c.self.invariant _ f.room _ c.self.invariant.state

pub returns-in-Some-clause-clocks : goal.returns-in-Some-clause-clocks
returns-in-Some-clause-clocks c =
    let e : c.run.new.values.items ≡ run_of c.self.inside.state c.self.inside.program.instructions (filled c.self.inside.state.regs (word_at c.self.inside.checked.now.netlist c.self.inside.words c.self.inside.state) c.self.inside.program.inlets c.self.inside.values.items) = rw (c.word_of-word.ensures, c.as_slice-words.ensures) at c.run.ensures in
    let f : RunsAs c.self.inside.checked.now.netlist c.self.inside.state (word_at c.self.inside.checked.now.netlist c.self.inside.words c.self.inside.state) c.run.new.values.items c.self.inside.program = ran _ _ _ _ _ c.self.invariant _ e in
    let found : Some c.in-Some.bus ≡ clash_by (slice_index c.run.new.values.items) c.self.inside.program.buses = rw (c.as_slice-values.ensures.value, c.as_slice-buses.ensures) at c.in-Some.ensures in
    rw (← c.self.view_is) (clocks_clash c.self.inside.checked.now.netlist c.self.inside.words c.self.inside.state _ (found ∙ f.clash), refl, refl)

pub invariant_of-self-in-None : goal.invariant_of-self-in-None
invariant_of-self-in-None c =
    let e : c.run.new.values.items ≡ run_of c.self.inside.state c.self.inside.program.instructions (filled c.self.inside.state.regs (word_at c.self.inside.checked.now.netlist c.self.inside.words c.self.inside.state) c.self.inside.program.inlets c.self.inside.values.items) = rw (c.word_of-word.ensures, c.as_slice-words.ensures) at c.run.ensures in
    let f : RunsAs c.self.inside.checked.now.netlist c.self.inside.state (word_at c.self.inside.checked.now.netlist c.self.inside.words c.self.inside.state) c.run.new.values.items c.self.inside.program = ran _ _ _ _ _ c.self.invariant _ e in
    let left : c.clock_registers.new.regs ≡ regs_by (slice_index c.run.new.values.items) c.self.inside.program.latches c.self.inside.state.regs = rw (c.as_slice-values.ensures.value, c.as_slice-storages.ensures) at c.clock_registers.ensures in
    let regs : c.clock_registers.new.regs ≡ next_regs (value_of c.self.inside.checked.now.netlist c.self.inside.state (word_at c.self.inside.checked.now.netlist c.self.inside.words c.self.inside.state)) c.self.inside.checked.now.netlist.storages c.self.inside.state.regs = left ∙ f.regs _ in
    let right : c.clock_cells-self-inside.new.cells ≡ cells_by (slice_index c.run.new.values.items) c.self.inside.program.port c.self.inside.state.cells = rw c.as_slice-values.ensures.value at c.clock_cells-self-inside.ensures.cells in
    let cells : c.clock_cells-self-inside.new.cells ≡ next_cells (value_of c.self.inside.checked.now.netlist c.self.inside.state (word_at c.self.inside.checked.now.netlist c.self.inside.words c.self.inside.state)) InMemory c.self.inside.checked.now.netlist.storages c.self.inside.state.cells = right ∙ f.cells InMemory _ in
    let last : c.clock_cells-written.new.cells ≡ cells_by (slice_index c.run.new.values.items) c.self.inside.program.file_port c.self.inside.state.file = rw c.as_slice-values.ensures.value at c.clock_cells-written.ensures.cells in
    let file : c.clock_cells-written.new.cells ≡ next_cells (value_of c.self.inside.checked.now.netlist c.self.inside.state (word_at c.self.inside.checked.now.netlist c.self.inside.words c.self.inside.state)) InFile c.self.inside.checked.now.netlist.storages c.self.inside.state.file = last ∙ f.cells InFile _ in
    still_running _ _ _ _ _ c.self.invariant _ f.room _ (next_fits c.self.inside.checked.now.netlist c.self.inside.words c.self.inside.state _ _ _ regs cells file c.self.invariant.typed c.self.invariant.words_fit c.self.invariant.state)

pub returns-in-None-clause-clocks : goal.returns-in-None-clause-clocks
returns-in-None-clause-clocks c =
    let e : c.run.new.values.items ≡ run_of c.self.inside.state c.self.inside.program.instructions (filled c.self.inside.state.regs (word_at c.self.inside.checked.now.netlist c.self.inside.words c.self.inside.state) c.self.inside.program.inlets c.self.inside.values.items) = rw (c.word_of-word.ensures, c.as_slice-words.ensures) at c.run.ensures in
    let f : RunsAs c.self.inside.checked.now.netlist c.self.inside.state (word_at c.self.inside.checked.now.netlist c.self.inside.words c.self.inside.state) c.run.new.values.items c.self.inside.program = ran _ _ _ _ _ c.self.invariant _ e in
    let left : c.clock_registers.new.regs ≡ regs_by (slice_index c.run.new.values.items) c.self.inside.program.latches c.self.inside.state.regs = rw (c.as_slice-values.ensures.value, c.as_slice-storages.ensures) at c.clock_registers.ensures in
    let regs : c.clock_registers.new.regs ≡ next_regs (value_of c.self.inside.checked.now.netlist c.self.inside.state (word_at c.self.inside.checked.now.netlist c.self.inside.words c.self.inside.state)) c.self.inside.checked.now.netlist.storages c.self.inside.state.regs = left ∙ f.regs _ in
    let right : c.clock_cells-self-inside.new.cells ≡ cells_by (slice_index c.run.new.values.items) c.self.inside.program.port c.self.inside.state.cells = rw c.as_slice-values.ensures.value at c.clock_cells-self-inside.ensures.cells in
    let cells : c.clock_cells-self-inside.new.cells ≡ next_cells (value_of c.self.inside.checked.now.netlist c.self.inside.state (word_at c.self.inside.checked.now.netlist c.self.inside.words c.self.inside.state)) InMemory c.self.inside.checked.now.netlist.storages c.self.inside.state.cells = right ∙ f.cells InMemory _ in
    let last : c.clock_cells-written.new.cells ≡ cells_by (slice_index c.run.new.values.items) c.self.inside.program.file_port c.self.inside.state.file = rw c.as_slice-values.ensures.value at c.clock_cells-written.ensures.cells in
    let file : c.clock_cells-written.new.cells ≡ next_cells (value_of c.self.inside.checked.now.netlist c.self.inside.state (word_at c.self.inside.checked.now.netlist c.self.inside.words c.self.inside.state)) InFile c.self.inside.checked.now.netlist.storages c.self.inside.state.file = last ∙ f.cells InFile _ in
    let found : None ≡ clash_by (slice_index c.run.new.values.items) c.self.inside.program.buses = rw (c.as_slice-values.ensures.value, c.as_slice-buses.ensures) at c.in-None.ensures in
    let cell : c.clock_cells-self-inside.result ≡ cell_by (slice_index c.run.new.values.items) c.self.inside.program.port (length c.self.inside.state.cells) = rw c.as_slice-values.ensures.value at c.clock_cells-self-inside.ensures.written in
    let written : c.clock_cells-self-inside.result ≡ written_cell c.self.inside.checked.now.netlist c.self.inside.words c.self.inside.state = cell ∙ f.written _ in
    rw (← c.self.view_is) (clocks_next c.self.inside.checked.now.netlist c.self.inside.words c.self.inside.state _ _ _ (found ∙ f.clash) regs cells file, written)

pub returns-in-None-clause-state : goal.returns-in-None-clause-state
returns-in-None-clause-state c =
    let e : c.run.new.values.items ≡ run_of c.self.inside.state c.self.inside.program.instructions (filled c.self.inside.state.regs (word_at c.self.inside.checked.now.netlist c.self.inside.words c.self.inside.state) c.self.inside.program.inlets c.self.inside.values.items) = rw (c.word_of-word.ensures, c.as_slice-words.ensures) at c.run.ensures in
    let f : RunsAs c.self.inside.checked.now.netlist c.self.inside.state (word_at c.self.inside.checked.now.netlist c.self.inside.words c.self.inside.state) c.run.new.values.items c.self.inside.program = ran _ _ _ _ _ c.self.invariant _ e in
    let left : c.clock_registers.new.regs ≡ regs_by (slice_index c.run.new.values.items) c.self.inside.program.latches c.self.inside.state.regs = rw (c.as_slice-values.ensures.value, c.as_slice-storages.ensures) at c.clock_registers.ensures in
    let regs : c.clock_registers.new.regs ≡ next_regs (value_of c.self.inside.checked.now.netlist c.self.inside.state (word_at c.self.inside.checked.now.netlist c.self.inside.words c.self.inside.state)) c.self.inside.checked.now.netlist.storages c.self.inside.state.regs = left ∙ f.regs _ in
    let right : c.clock_cells-self-inside.new.cells ≡ cells_by (slice_index c.run.new.values.items) c.self.inside.program.port c.self.inside.state.cells = rw c.as_slice-values.ensures.value at c.clock_cells-self-inside.ensures.cells in
    let cells : c.clock_cells-self-inside.new.cells ≡ next_cells (value_of c.self.inside.checked.now.netlist c.self.inside.state (word_at c.self.inside.checked.now.netlist c.self.inside.words c.self.inside.state)) InMemory c.self.inside.checked.now.netlist.storages c.self.inside.state.cells = right ∙ f.cells InMemory _ in
    let last : c.clock_cells-written.new.cells ≡ cells_by (slice_index c.run.new.values.items) c.self.inside.program.file_port c.self.inside.state.file = rw c.as_slice-values.ensures.value at c.clock_cells-written.ensures.cells in
    let file : c.clock_cells-written.new.cells ≡ next_cells (value_of c.self.inside.checked.now.netlist c.self.inside.state (word_at c.self.inside.checked.now.netlist c.self.inside.words c.self.inside.state)) InFile c.self.inside.checked.now.netlist.storages c.self.inside.state.file = last ∙ f.cells InFile _ in
    next_fits c.self.inside.checked.now.netlist c.self.inside.words c.self.inside.state _ _ _ regs cells file c.self.invariant.typed c.self.invariant.words_fit c.self.invariant.state
