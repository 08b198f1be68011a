use Rattle.std.proofs.Common.{◌≡◌}
use Rattle.net_model.proofs.Memories.{few_sizes}
use Rattle.cycle_sim.specs.Inner.Decoding.{constants_of}
use Rattle.cycle_sim.proofs.Programs.{constants_room}
use Rattle.cycle_sim.proofs.sim.Sim.new.Goals as goal

pub invariant_of-result : goal.invariant_of-result
invariant_of-result c =
    let room : c.in_ok-values.values.items ≡ constants_of c.args.checked.now.netlist.nets = rw (c.as_slice.ensures, c.netlist-netlist.ensures.value) at c.in_ok-values.ensures in
    record {
      typed = c.netlist-netlist.ensures.sound.typed;
      few = few_sizes _ _ c.netlist-netlist.ensures.kept;
      words_fit = c.requires.words;
      state = c.requires.start;
      decoded = c.in_ok-program.ensures.program;
      cell_width = c.in_ok-program.ensures.width;
      port_fits = c.in_ok-program.ensures.fits;
      room = rw room (constants_room c.args.checked.now.netlist);
    }
