use Rattle.std.proofs.Common.{◌++◌, Bool, ap, sym, refl, ◌∙◌}
use Rattle.rec_io.specs.declared.sink.WriteFault.{WriteFault}
use Rattle.code_model.specs.Machine.{mtrace}
use Rattle.checkpoint_watch.specs.Texts.{last_line}
use Rattle.src_model.specs.Meaning.{zeros}
use Rattle.checkpoint_watch.specs.Inner.Traces.{trace_ends, trace_lines}
use Rattle.checkpoint_watch.proofs.Putting.{all_left, puts_failed, puts_then, stops_there}
use Rattle.checkpoint_watch.proofs.watch.Watch.run.Goals as goal

pub returns : goal.returns
returns g c =
    let inside = c.self.inside in
    let trace = mtrace inside.sim.netlist inside.image.now inside.sim.state 0 inside.clocks in
    let lines = trace_lines inside.writer.vars.now inside.writer.last_cells trace in
    let put = c.put_all.ensures in
    puts_then _ _ _ lines c.last_line.result.now c.args.self _ c.put_all.result
    (ap (λ last_cells. trace_lines inside.writer.vars.now last_cells trace ++ c.last_line.result.now) c.self.invariant.fresh
    ∙ ap (λ text. trace_lines inside.writer.vars.now (zeros inside.writer.vars.now) trace ++ text) (c.last_line.ensures ∙ ap last_line c.in_ok-ended.ensures.ended)
    ∙ c.self.view_is)
    c.in_ok-ended.ensures.puts
    (record { cause = put.cause; calm = put.calm; failed = put.failed; all = put.all; part = put.part })

pub returns-in_err-ended : goal.returns-in_err-ended
returns-in_err-ended g c =
    let inside = c.self.inside in
    let trace = mtrace inside.sim.netlist inside.image.now inside.sim.state 0 inside.clocks in
    let vars = inside.writer.vars.now in
    let lines = trace_lines vars inside.writer.last_cells trace in
    let end = last_line (trace_ends trace) in
    let whole = ap (λ last_cells. trace_lines vars last_cells trace ++ end) c.self.invariant.fresh ∙ c.self.view_is in
    let fault : WriteFault = c.in_err-ended.field-0.0 in
    puts_failed {T = Bool} {E = WriteFault} _ _ c.args.self c.args.self fault c.from_residual.result c.from_residual.ensures.0 refl
    (stops_there _ _ _ lines end c.args.self c.args.self fault fault (all_left _ c.args.self) (sym whole) c.in_err-ended.ensures.puts)
