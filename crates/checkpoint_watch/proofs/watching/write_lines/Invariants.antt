use Rattle.std.proofs.Common.{◌≡◌, ◌-◌}
use Rattle.net_model.specs.Widths.{IsState}
use Rattle.code_model.specs.Machine.{mtrace}
use Rattle.code_model.specs.Places.{words_of}
use Rattle.checkpoint_watch.specs.Inner.Scenes.{IsScene}
use Rattle.checkpoint_watch.specs.Inner.Traces.{IsShown, trace_ends, trace_lines}
use Rattle.checkpoint_watch.proofs.Putting.{IsLeft}
use Rattle.checkpoint_watch.proofs.watching.write_lines.Given as goal

-- what is left of the trace and of its lines, from where the clocks so far have led
abbrev pub invariant-loop-cycle : goal.invariant-loop-cycle
invariant-loop-cycle g l = record {
  scene : IsScene l.sim.netlist l.image l.writer.vars.now l.writer.address;
  state : IsState l.sim.netlist l.sim.state;
  words : l.sim.words ≡ words_of l.image;
  shown : IsShown (mtrace l.sim.netlist l.image l.sim.state l.cycle (l.clocks - l.cycle));
  left : IsLeft (g.S.Sink.state l.initial.sink) (g.S.Sink.state l.sink)
      (trace_lines l.writer.vars.now l.writer.last_cells (mtrace l.sim.netlist l.image l.sim.state l.cycle (l.clocks - l.cycle)))
      (trace_lines l.initial.writer.vars.now l.initial.writer.last_cells (mtrace l.initial.sim.netlist l.image l.initial.sim.state 0 l.clocks));
  ends : trace_ends (mtrace l.sim.netlist l.image l.sim.state l.cycle (l.clocks - l.cycle)) ≡ trace_ends (mtrace l.initial.sim.netlist l.image l.initial.sim.state 0 l.clocks);
}
