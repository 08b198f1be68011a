use Rattle.std.proofs.Common.{◌≡◌, slice_index, None, Some, refl, arith}
use Rattle.net_model.specs.declared.hardware.Space.TheVariants.{Memory as InMemory, File as InFile}
use Rattle.net_model.specs.Clock.{clash_in, word_at}
use Rattle.cycle_sim.proofs.Edges.{words_fit_at}
use Rattle.fault_sim.specs.Faulty.{faulty_value}
use Rattle.fault_sim.proofs.Edges.{AreClocked, clashes, clocked_fits, steps}
use Rattle.fault_sim.proofs.sim.FaultSim.clock.Goals as goal

pub evaluate-requires-clause-word : goal.evaluate-requires-clause-word
evaluate-requires-clause-word c =
    rw (c.word_of-word.ensures, c.as_slice-words.ensures) (words_fit_at c.self.inside.checked.now.netlist c.self.inside.words c.self.invariant.words_fit _)

pub returns-in-Some-clause-clocks : goal.returns-in-Some-clause-clocks
returns-in-Some-clause-clocks c =
    let e : slice_index c.evaluate.new.values ≡ faulty_value c.self.inside.checked.now.netlist c.self.inside.fault c.self.inside.state (word_at c.self.inside.checked.now.netlist c.self.inside.words c.self.inside.state) = rw (c.word_of-word.ensures, c.as_slice-words.ensures) at c.evaluate.ensures.values in
    let q : Some c.in-Some.bus ≡ clash_in (slice_index c.evaluate.new.values) c.self.inside.checked.now.netlist.nets = rw (c.as_slice-values.ensures, c.as_slice.ensures, c.netlist-netlist.ensures.value) at c.in-Some.ensures.first in
    rw (← c.self.view_is) (clashes c.self.inside.checked.now.netlist c.self.inside.state _ c.evaluate.new.values e _ q, refl)

pub clock_cells-requires : goal.clock_cells-requires
clock_cells-requires c =
    omega (arith, c.self.invariant.few InMemory, c.self.invariant.state.cells InMemory)

pub clock_cells-requires-2 : goal.clock_cells-requires-2
clock_cells-requires-2 c =
    omega (arith, c.self.invariant.few InFile, c.self.invariant.state.cells InFile)

pub invariant_of-self-2 : goal.invariant_of-self-2
invariant_of-self-2 c =
    let e : slice_index c.evaluate.new.values ≡ faulty_value c.self.inside.checked.now.netlist c.self.inside.fault c.self.inside.state (word_at c.self.inside.checked.now.netlist c.self.inside.words c.self.inside.state) = rw (c.word_of-word.ensures, c.as_slice-words.ensures) at c.evaluate.ensures.values in
    let are : AreClocked c.self.inside.checked.now.netlist c.self.inside.state (slice_index c.evaluate.new.values) c.clock_registers.new.regs c.clock_cells.new.cells c.clock_cells-2.new.cells = record {
      regs_are = rw (c.as_slice-values.ensures, c.as_slice-storages.ensures, c.netlist-netlist.ensures.value) at c.clock_registers.ensures;
      cells_are = rw (c.as_slice-values.ensures, c.as_slice-storages.ensures, c.netlist-netlist.ensures.value) at c.clock_cells.ensures;
      file_is = rw (c.as_slice-values.ensures, c.as_slice-storages.ensures, c.netlist-netlist.ensures.value) at c.clock_cells-2.ensures;
    } in
    record {
      few = c.self.invariant.few;
      stuck = c.self.invariant.stuck;
      words_fit = c.self.invariant.words_fit;
      state = clocked_fits c.self.inside.checked.now.netlist c.self.inside.state _ c.evaluate.new.values e _ _ _ are c.netlist-netlist.ensures.sound.typed c.evaluate.ensures.fit c.self.invariant.state;
      long = c.evaluate.ensures.long;
      fit = c.evaluate.ensures.fit;
    }

pub returns-clause-clocks : goal.returns-clause-clocks
returns-clause-clocks c =
    let e : slice_index c.evaluate.new.values ≡ faulty_value c.self.inside.checked.now.netlist c.self.inside.fault c.self.inside.state (word_at c.self.inside.checked.now.netlist c.self.inside.words c.self.inside.state) = rw (c.word_of-word.ensures, c.as_slice-words.ensures) at c.evaluate.ensures.values in
    let are : AreClocked c.self.inside.checked.now.netlist c.self.inside.state (slice_index c.evaluate.new.values) c.clock_registers.new.regs c.clock_cells.new.cells c.clock_cells-2.new.cells = record {
      regs_are = rw (c.as_slice-values.ensures, c.as_slice-storages.ensures, c.netlist-netlist.ensures.value) at c.clock_registers.ensures;
      cells_are = rw (c.as_slice-values.ensures, c.as_slice-storages.ensures, c.netlist-netlist.ensures.value) at c.clock_cells.ensures;
      file_is = rw (c.as_slice-values.ensures, c.as_slice-storages.ensures, c.netlist-netlist.ensures.value) at c.clock_cells-2.ensures;
    } in
    let q : None ≡ clash_in (slice_index c.evaluate.new.values) c.self.inside.checked.now.netlist.nets = rw (c.as_slice-values.ensures, c.as_slice.ensures, c.netlist-netlist.ensures.value) at c.in_default.ensures.first in
    rw (← c.self.view_is) (steps c.self.inside.checked.now.netlist c.self.inside.state _ c.evaluate.new.values e _ _ _ are q)

pub returns-clause-state : goal.returns-clause-state
returns-clause-state c =
    let e : slice_index c.evaluate.new.values ≡ faulty_value c.self.inside.checked.now.netlist c.self.inside.fault c.self.inside.state (word_at c.self.inside.checked.now.netlist c.self.inside.words c.self.inside.state) = rw (c.word_of-word.ensures, c.as_slice-words.ensures) at c.evaluate.ensures.values in
    let are : AreClocked c.self.inside.checked.now.netlist c.self.inside.state (slice_index c.evaluate.new.values) c.clock_registers.new.regs c.clock_cells.new.cells c.clock_cells-2.new.cells = record {
      regs_are = rw (c.as_slice-values.ensures, c.as_slice-storages.ensures, c.netlist-netlist.ensures.value) at c.clock_registers.ensures;
      cells_are = rw (c.as_slice-values.ensures, c.as_slice-storages.ensures, c.netlist-netlist.ensures.value) at c.clock_cells.ensures;
      file_is = rw (c.as_slice-values.ensures, c.as_slice-storages.ensures, c.netlist-netlist.ensures.value) at c.clock_cells-2.ensures;
    } in
    clocked_fits c.self.inside.checked.now.netlist c.self.inside.state _ c.evaluate.new.values e _ _ _ are c.netlist-netlist.ensures.sound.typed c.evaluate.ensures.fit c.self.invariant.state
