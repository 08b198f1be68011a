use Rattle.std.proofs.Common.{◌≡◌, ap, sym, subst, ◌∙◌}
use Rattle.cycle_sim.specs.Shown.{Shown}
use Rattle.make_command.specs.Inner.Marks.{end_address}
use Rattle.make_command.specs.Stops.{RunsOn, StandsAt, StopsAt}
use Rattle.make_command.proofs.EndMarks.{runs_to_address, stops_at_end}
use Rattle.make_command.proofs.ends.run_image.Goals as goal

pub clock_to-clocks-requires : goal.clock_to-clocks-requires
clock_to-clocks-requires c =
    let netlist = c.args.modes.now.netlist in
    let image = c.args.image.now in
    let address : c.end_address.result ≡ end_address image.marks = c.end_address.ensures ∙ ap end_address c.as_slice.ensures in
    subst (λ (x : Shown). RunsOn x.netlist x.words (StandsAt x.netlist c.end_address.result) c.args.most x.state) (sym c.in_ok-sim.ensures)
    (rw (address, c.in_ok-words.ensures) (runs_to_address netlist image c.requires.marks c.args.most c.args.start c.requires.clean))

pub returns : goal.returns
returns c =
    let netlist = c.args.modes.now.netlist in
    let image = c.args.image.now in
    let address : c.end_address.result ≡ end_address image.marks = c.end_address.ensures ∙ ap end_address c.as_slice.ensures in
    let stops = subst (λ (x : Shown). StopsAt x.netlist x.words (StandsAt x.netlist c.end_address.result) x.state c.args.most c.clock_to-clocks.result c.clock_to-clocks.new.sim.state) c.in_ok-sim.ensures c.clock_to-clocks.ensures.stops in
    stops_at_end netlist image c.requires.marks c.args.start c.args.most c.clock_to-clocks.result c.clock_to-clocks.new.sim.state
    (rw (address, c.in_ok-words.ensures) at stops)
