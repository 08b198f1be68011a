use Rattle.std.proofs.Common.{◌+◌, ◌-◌, sym, ◌∙◌, arith}
use Rattle.checkpoint_watch.proofs.Clocking.{stopped, ended, last, last_stopped, clocks_on, next_shown, next_ends, next_left, same_scene}
use Rattle.checkpoint_watch.proofs.watching.write_lines.Goals as goal

pub returns-in_err-look-clause-puts : goal.returns-in_err-look-clause-puts
returns-in_err-look-clause-puts g c =
    let inv = c.loop-cycle.invariant in
    let sim = c.loop-cycle.sim in
    let writer = c.loop-cycle.writer in
    stopped sim.netlist c.args.image.now writer.vars.now writer.last_cells sim.state c.loop-cycle.cycle _ _ _ _ (c.args.clocks - c.loop-cycle.cycle) _ c.from_residual.result inv.shown inv.left
    c.in_err-look.ensures.puts c.from_residual.ensures.0

pub returns-then-branch-clause-puts : goal.returns-then-branch-clause-puts
returns-then-branch-clause-puts g c =
    let inv = c.loop-cycle.invariant in
    let sim = c.loop-cycle.sim in
    let writer = c.loop-cycle.writer in
    ended sim.netlist c.args.image.now writer.vars.now writer.last_cells sim.state c.loop-cycle.cycle _ _ _ _ (c.args.clocks - c.loop-cycle.cycle) _ _ (sym c.in_ok-look.ensures.ended ∙ c.if-branch.true) inv.left
    c.in_ok-look.ensures.puts

pub step-requires : goal.step-requires
step-requires g c =
    let inv = c.loop-cycle.invariant in
    let sim = c.loop-cycle.sim in
    let writer = c.loop-cycle.writer in
    clocks_on sim.netlist c.args.image.now writer.vars.now writer.last_cells sim.state c.loop-cycle.cycle (c.args.clocks - c.loop-cycle.cycle) (c.args.clocks - (c.loop-cycle.cycle + 1)) (omega arith)
    (sym c.in_ok-look.ensures.ended ∙ c.if-branch.false) inv.shown sim.words inv.words

pub loop-cycle-preserved : goal.loop-cycle-preserved
loop-cycle-preserved g c =
    let inv = c.loop-cycle.invariant in
    let sim = c.loop-cycle.sim in
    let writer = c.loop-cycle.writer in
    let image = c.args.image.now in
    let cycle = c.loop-cycle.cycle in
    let n = c.args.clocks - cycle in
    let m = c.args.clocks - (cycle + 1) in
    let other = sym c.in_ok-look.ensures.ended ∙ c.if-branch.false in
    let next = c.step.new.sim in
    let new = c.look.new.writer in
    record {
      scene = same_scene sim.netlist next.netlist image writer.vars.now new.vars.now writer.address new.address c.step.ensures.netlist c.in_ok-look.ensures.vars c.in_ok-look.ensures.address inv.scene;
      state = c.step.ensures.state;
      words = c.step.ensures.words ∙ inv.words;
      shown =
          next_shown sim.netlist image writer.vars.now writer.last_cells sim.state cycle n m (omega arith) other inv.shown next.state sim.words inv.words c.step.ensures.clocked
          next.netlist new.vars.now new.last_cells c.step.ensures.netlist c.in_ok-look.ensures.vars c.in_ok-look.ensures.last_cells;
      left =
          next_left sim.netlist image writer.vars.now writer.last_cells sim.state cycle n m (omega arith) other inv.shown next.state sim.words inv.words c.step.ensures.clocked
          next.netlist new.vars.now new.last_cells c.step.ensures.netlist c.in_ok-look.ensures.vars c.in_ok-look.ensures.last_cells _ _ _ _ _ inv.left c.in_ok-look.ensures.puts;
      ends =
          next_ends sim.netlist image writer.vars.now writer.last_cells sim.state cycle n m (omega arith) other inv.shown next.state sim.words inv.words c.step.ensures.clocked
          next.netlist new.vars.now new.last_cells c.step.ensures.netlist c.in_ok-look.ensures.vars c.in_ok-look.ensures.last_cells
          ∙ inv.ends;
    }

pub returns-in_err-ended-clause-puts : goal.returns-in_err-ended-clause-puts
returns-in_err-ended-clause-puts g c =
    let inv = c.loop-cycle.invariant in
    let sim = c.loop-cycle.sim in
    let writer = c.loop-cycle.writer in
    let r = c.from_residual-in_err-ended in
    last_stopped sim.netlist c.args.image.now writer.vars.now writer.last_cells sim.state c.loop-cycle.cycle _ _ _ _ (c.args.clocks - c.loop-cycle.cycle) c.args.clocks _ r.result (omega arith) (omega arith) inv.left c.in_err-ended.ensures.puts r.ensures.0

pub returns-clause-puts : goal.returns-clause-puts
returns-clause-puts g c =
    let inv = c.loop-cycle.invariant in
    let sim = c.loop-cycle.sim in
    let writer = c.loop-cycle.writer in
    last sim.netlist c.args.image.now writer.vars.now writer.last_cells sim.state c.loop-cycle.cycle _ _ _ _ (c.args.clocks - c.loop-cycle.cycle) c.args.clocks _ (omega arith) (omega arith) inv.left c.in_ok-ended.ensures.puts
