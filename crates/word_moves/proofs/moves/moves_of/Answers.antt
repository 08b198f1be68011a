use Rattle.std.proofs.Common.{◌≡◌, ◌<◌, get_or, length, length-append, arith}
use Rattle.word_moves.proofs.Moved.{more_within, more_are}
use Rattle.word_moves.proofs.moves.moves_of.Goals as goal

pub loop-id-preserved : goal.loop-id-preserved
loop-id-preserved c =
    let is : c.index-storages-id.result ≡ get_or c.args.checked.now.netlist.storages c.loop-id.id c.index-storages-id.result = rw (c.as_slice-storages.ensures, c.netlist.ensures.value) at c.index-storages-id.is in
    let inside : c.loop-id.id < length c.args.checked.now.netlist.storages = rw (c.as_slice-storages.ensures, c.netlist.ensures.value) at c.loop-id-test.true in
    let pushed = c.in_ok-push.ensures.pushed in
    record {
      long = rw pushed (grind (arith, length-append, c.loop-id.invariant.long));
      within = rw pushed
          (more_within c.args.checked.now.netlist c.args.at.now.word c.args.pool.now c.args.ids.now c.requires.ids _ c.requires.values c.netlist.ensures.sound.typed c.loop-id.moves c.loop-id.id c.loop-id.invariant.long
          c.index-storages-id.result is inside c.move_of.result c.loop-id.invariant.within c.move_of.ensures.within);
      are = rw pushed
          (more_are c.args.checked.now.netlist c.args.at.now.word c.args.pool.now c.args.ids.now c.requires.ids _ c.requires.values c.netlist.ensures.sound.typed c.loop-id.moves c.loop-id.id c.loop-id.invariant.long
          c.index-storages-id.result is inside c.move_of.result c.loop-id.invariant.are c.move_of.ensures.is);
    }
