use Rattle.std.proofs.Common.{◌<◌, ◌^◌, ◌↔◌, IsTrue, arith, length, slice_set}
use Rattle.net_model.specs.Nets.{memory_width}
use Rattle.net_model.specs.Widths.{IsState}
use Rattle.cycle_sim.proofs.Edges.{told_of, refused, taken, set_is_state}
use Rattle.cycle_sim.proofs.sim.Sim.set_cell.Goals as goal

pub returns-then-not-is_cell_value-clause-fits : goal.returns-then-not-is_cell_value-clause-fits
returns-then-not-is_cell_value-clause-fits c =
    let told : IsTrue c.is_cell_value.result ↔ (c.args.value < 2 ^ memory_width c.self.inside.checked.now.netlist.storages) = told_of c.self.inside.checked.now.netlist.storages c.self.inside.program.port _ _ c.self.invariant.cell_width c.is_cell_value.ensures in
    rw (← c.self.view_is) (refused _ _ _ told c.if-not-is_cell_value.true)

pub invariant_of-self : goal.invariant_of-self
invariant_of-self c =
    let told : IsTrue c.is_cell_value.result ↔ (c.args.value < 2 ^ memory_width c.self.inside.checked.now.netlist.storages) = told_of c.self.inside.checked.now.netlist.storages c.self.inside.program.port _ _ c.self.invariant.cell_width c.is_cell_value.ensures in
    record {
      typed = c.self.invariant.typed;
      few = c.self.invariant.few;
      words_fit = c.self.invariant.words_fit;
      state = rw c.set.ensures (set_is_state _ _ _ _ c.self.invariant.state (told.0 c.if-not-is_cell_value.false));
      decoded = c.self.invariant.decoded;
      cell_width = c.self.invariant.cell_width;
      port_fits = c.self.invariant.port_fits;
      room = c.self.invariant.room;
    }

pub returns-clause-fits : goal.returns-clause-fits
returns-clause-fits c =
    let told : IsTrue c.is_cell_value.result ↔ (c.args.value < 2 ^ memory_width c.self.inside.checked.now.netlist.storages) = told_of c.self.inside.checked.now.netlist.storages c.self.inside.program.port _ _ c.self.invariant.cell_width c.is_cell_value.ensures in
    let within : c.args.address < length c.self.inside.state.cells = omega arith in
    rw (← c.self.view_is) (taken _ _ _ within told c.if-not-is_cell_value.false)

pub returns-clause-state : goal.returns-clause-state
returns-clause-state c =
    let told : IsTrue c.is_cell_value.result ↔ (c.args.value < 2 ^ memory_width c.self.inside.checked.now.netlist.storages) = told_of c.self.inside.checked.now.netlist.storages c.self.inside.program.port _ _ c.self.invariant.cell_width c.is_cell_value.ensures in
    let state : IsState c.self.inside.checked.now.netlist (record c.self.inside.state { cells = slice_set c.self.inside.state.cells c.args.address c.args.value }) = set_is_state _ _ _ _ c.self.invariant.state (told.0 c.if-not-is_cell_value.false) in
    rw c.set.ensures state
