use Rattle.std.proofs.Common.{◌≡◌, ℕ, ◌<◌, ◌++◌, List, length, Some, get_or, slice_get, refl, ap, ◌∙◌}
use Rattle.std.proofs.lemmas.Option.{slice_get_read}
use Rattle.std.proofs.lemmas.Result.{on_ok_weaker}
use Rattle.rec_bits.proofs.Lists.{all_at}
use Rattle.net_model.specs.declared.hardware.Storage.{Storage}
use Rattle.net_model.specs.Widths.{StorageFits}
use Rattle.transfer_set.specs.Inner.Entries.{transfers_under}
use Rattle.transfer_set.specs.Inner.Sources.{memory, file}
use Rattle.transfer_set.proofs.Feeding.{register_gives, register_known, register_whole}
use Rattle.transfer_set.proofs.sources.add_storage.Goals as goal

-- the storage that is read is the one of its number
stored : (storages : List Storage) (id : ℕ) (read storage : Storage) → id < length storages → read ≡ get_or storages id read → read ≡ storage → slice_get storages id ≡ Some storage
stored storages id read storage lt is e = slice_get_read storages (length storages) _ read refl lt is ∙ ap Some e

pub when_set-requires : goal.when_set-requires
when_set-requires c =
    let at = stored c.args.source.now.checked.now.netlist.storages c.args.id _ _ c.requires.id (rw (c.as_slice-storages.ensures, c.netlist.ensures.value) at c.index-storages-id.is) c.in-Register.is in
    (register_known c.args.source.now.checked.now.netlist c.args.book.now c.args.source.now.pool.now c.args.source.now.controls.now c.args.source.now.routes.now.of c.requires.source c.len-ids.ensures.one_each
    c.args.id _ _ _ _ at (all_at (StorageFits c.args.source.now.checked.now.netlist) c.args.source.now.checked.now.netlist.storages c.args.id _ c.netlist.ensures.sound.typed.storages at)).0

pub add_register-requires-clause-on : goal.add_register-requires-clause-on
add_register-requires-clause-on c =
    let at = stored c.args.source.now.checked.now.netlist.storages c.args.id _ _ c.requires.id (rw (c.as_slice-storages.ensures, c.netlist.ensures.value) at c.index-storages-id.is) c.in-Register.is in
    rw c.when_set.ensures (register_known c.args.source.now.checked.now.netlist c.args.book.now c.args.source.now.pool.now c.args.source.now.controls.now c.args.source.now.routes.now.of c.requires.source c.len-ids.ensures.one_each
    c.args.id _ _ _ _ at (all_at (StorageFits c.args.source.now.checked.now.netlist) c.args.source.now.checked.now.netlist.storages c.args.id _ c.netlist.ensures.sound.typed.storages at)).1.within

pub add_register-requires-clause-sets : goal.add_register-requires-clause-sets
add_register-requires-clause-sets c =
    rw c.routes_of-inputs.ensures (c.requires.source.routes.tables _).right.sets

pub add_register-requires-clause-exprs : goal.add_register-requires-clause-exprs
add_register-requires-clause-exprs c =
    rw c.routes_of-inputs.ensures (c.requires.source.routes.tables _).exprs

pub returns-in-Register-clause-moves : goal.returns-in-Register-clause-moves
returns-in-Register-clause-moves c = on_ok_weaker c.add_register.result (λ gives n word fits.
    let at = stored c.args.source.now.checked.now.netlist.storages c.args.id _ _ c.requires.id (rw (c.as_slice-storages.ensures, c.netlist.ensures.value) at c.index-storages-id.is) c.in-Register.is in
    rw (c.when_set.ensures, c.routes_of-inputs.ensures) at gives n word
    ∙ ap (λ l. transfers_under c.args.book.now c.args.source.now.pool.now c.args.out.now n word ++ l)
    (register_gives c.args.source.now.checked.now.netlist c.args.book.now c.args.source.now.pool.now c.args.source.now.controls.now c.args.source.now.routes.now.of c.requires.source c.len-ids.ensures.one_each
    c.args.id _ _ _ _ at (all_at (StorageFits c.args.source.now.checked.now.netlist) c.args.source.now.checked.now.netlist.storages c.args.id _ c.netlist.ensures.sound.typed.storages at) n word fits))
    c.add_register.ensures.moves

pub returns-in-Register-clause-whole : goal.returns-in-Register-clause-whole
returns-in-Register-clause-whole c = on_ok_weaker c.add_register.result (λ stays w.
    let at = stored c.args.source.now.checked.now.netlist.storages c.args.id _ _ c.requires.id (rw (c.as_slice-storages.ensures, c.netlist.ensures.value) at c.index-storages-id.is) c.in-Register.is in
    stays c.args.source.now.checked.now.netlist w
    (rw (c.when_set.ensures, c.routes_of-inputs.ensures)
    (register_whole c.args.source.now.checked.now.netlist c.args.book.now c.args.source.now.pool.now c.args.source.now.controls.now c.args.source.now.routes.now.of c.requires.source c.len-ids.ensures.one_each
    c.args.id _ _ _ _ at (all_at (StorageFits c.args.source.now.checked.now.netlist) c.args.source.now.checked.now.netlist.storages c.args.id _ c.netlist.ensures.sound.typed.storages at))))
    c.add_register.ensures.whole

pub add_array-requires-clause-at : goal.add_array-requires-clause-at
add_array-requires-clause-at c =
    record { storage = _; is = memory; at = stored c.args.source.now.checked.now.netlist.storages c.args.id _ _ c.requires.id (rw (c.as_slice-storages.ensures, c.netlist.ensures.value) at c.index-storages-id.is) c.in-Memory.is }

pub add_array-requires-in-File-clause-at : goal.add_array-requires-in-File-clause-at
add_array-requires-in-File-clause-at c =
    record { storage = _; is = file; at = stored c.args.source.now.checked.now.netlist.storages c.args.id _ _ c.requires.id (rw (c.as_slice-storages.ensures, c.netlist.ensures.value) at c.index-storages-id.is) c.in-File.is }
