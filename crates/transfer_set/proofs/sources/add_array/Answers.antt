use Rattle.std.proofs.Common.{◌++◌, length, ap, ◌∙◌}
use Rattle.std.proofs.lemmas.Result.{on_ok_weaker}
use Rattle.rec_bits.proofs.Lists.{all_at}
use Rattle.net_model.specs.Widths.{StorageFits}
use Rattle.transfer_set.specs.Inner.Entries.{transfers_under}
use Rattle.transfer_set.proofs.Feeding.{memory_gives, memory_known, memory_whole}
use Rattle.transfer_set.proofs.sources.add_array.Goals as goal

pub when_set-requires : goal.when_set-requires
when_set-requires c =
    (memory_known c.args.source.now.checked.now.netlist c.args.book.now c.args.source.now.pool.now c.args.source.now.controls.now c.args.source.now.routes.now.of c.requires.source c.len-ids.ensures.one_each
    c.args.id c.args.cells.now _ c.requires.at.is c.requires.at.at (all_at (StorageFits c.args.source.now.checked.now.netlist) c.args.source.now.checked.now.netlist.storages c.args.id _ c.netlist-netlist.ensures.sound.typed.storages c.requires.at.at)).0

pub add_memory-requires-clause-on : goal.add_memory-requires-clause-on
add_memory-requires-clause-on c =
    rw c.when_set.ensures (memory_known c.args.source.now.checked.now.netlist c.args.book.now c.args.source.now.pool.now c.args.source.now.controls.now c.args.source.now.routes.now.of c.requires.source c.len-ids.ensures.one_each
    c.args.id c.args.cells.now _ c.requires.at.is c.requires.at.at (all_at (StorageFits c.args.source.now.checked.now.netlist) c.args.source.now.checked.now.netlist.storages c.args.id _ c.netlist-netlist.ensures.sound.typed.storages c.requires.at.at)).1.within

pub add_memory-requires-clause-addrs : goal.add_memory-requires-clause-addrs
add_memory-requires-clause-addrs c =
    rw c.routes_of-addrs.ensures (c.requires.source.routes.tables _).right.sets

pub add_memory-requires-clause-values : goal.add_memory-requires-clause-values
add_memory-requires-clause-values c =
    rw c.routes_of-values.ensures (c.requires.source.routes.tables _).right.sets

pub returns-clause-moves : goal.returns-clause-moves
returns-clause-moves c = on_ok_weaker c.add_memory.result (λ gives n word fits.
    rw (c.when_set.ensures, c.routes_of-addrs.ensures, c.routes_of-values.ensures) at gives c.args.source.now.pool.now n word
    ∙ ap (λ l. transfers_under c.args.book.now c.args.source.now.pool.now c.args.out.now n word ++ l)
    (memory_gives c.args.source.now.checked.now.netlist c.args.book.now c.args.source.now.pool.now c.args.source.now.controls.now c.args.source.now.routes.now.of c.requires.source c.len-ids.ensures.one_each
    c.args.id c.args.cells.now _ c.requires.at.is c.requires.at.at (all_at (StorageFits c.args.source.now.checked.now.netlist) c.args.source.now.checked.now.netlist.storages c.args.id _ c.netlist-netlist.ensures.sound.typed.storages c.requires.at.at) n word fits))
    c.add_memory.ensures.moves

pub returns-clause-whole : goal.returns-clause-whole
returns-clause-whole c = on_ok_weaker c.add_memory.result (λ stays w.
    stays c.args.source.now.checked.now.netlist c.args.source.now.pool.now w
    (rw (c.when_set.ensures, c.routes_of-addrs.ensures, c.routes_of-values.ensures)
    (memory_whole c.args.source.now.checked.now.netlist c.args.book.now c.args.source.now.pool.now c.args.source.now.controls.now c.args.source.now.routes.now.of c.requires.source c.len-ids.ensures.one_each
    c.args.id c.args.cells.now _ c.requires.at.is c.requires.at.at (all_at (StorageFits c.args.source.now.checked.now.netlist) c.args.source.now.checked.now.netlist.storages c.args.id _ c.netlist-netlist.ensures.sound.typed.storages c.requires.at.at))))
    c.add_memory.ensures.whole

pub returns-clause-known : goal.returns-clause-known
returns-clause-known c = on_ok_weaker c.add_memory.result (λ known h.
    known (length c.args.source.now.pool.now) h
    (rw c.routes_of-addrs.ensures (c.requires.source.routes.tables _).exprs)
    (rw c.routes_of-values.ensures (c.requires.source.routes.tables _).exprs))
    c.add_memory.ensures.known
