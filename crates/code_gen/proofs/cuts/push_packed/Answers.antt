use Rattle.std.proofs.Common.{◌<◌, arith, length}
use Rattle.std.proofs.lemmas.Grind.{common_steps}
use Rattle.std.proofs.lemmas.Option.{slice_get-get_or}
use Rattle.std.proofs.lemmas.Result.{IfOk-from_err, on_ok_weaker}
use Rattle.code_gen.proofs.ByMode.{ready_at, ready_set}
use Rattle.code_gen.proofs.Running.{book_within, packed_in, steps_known}
use Rattle.code_gen.proofs.cuts.push_packed.Goals as goal

pub bounds-books-mode : goal.bounds-books-mode
bounds-books-mode c = book_within c.args.modes.now.machines.now c.args.books.now c.args.mode c.requires.ready c.requires.mode

pub offset_bounds-books-mode : goal.offset_bounds-books-mode
offset_bounds-books-mode c =
    let lt : c.args.mode < length c.args.books.now = book_within c.args.modes.now.machines.now c.args.books.now c.args.mode c.requires.ready c.requires.mode in
    grind (arith, common_steps)

-- the machine of the mode is ready in its book, and knows what its expressions read
pub pack_block-requires-clause-ready : goal.pack_block-requires-clause-ready
pack_block-requires-clause-ready c =
    let modes = c.args.modes.now in
    let books = c.args.books.now in
    (ready_at modes.machines.now books c.args.mode _ _ c.requires.ready (slice_get-get_or modes.machines.now c.args.mode _ c.requires.mode)
    (slice_get-get_or books c.args.mode _ (book_within modes.machines.now books c.args.mode c.requires.ready c.requires.mode))).ready

pub pack_block-requires-clause-tables : goal.pack_block-requires-clause-tables
pack_block-requires-clause-tables c =
    let modes = c.args.modes.now in
    let books = c.args.books.now in
    (ready_at modes.machines.now books c.args.mode _ _ c.requires.ready (slice_get-get_or modes.machines.now c.args.mode _ c.requires.mode)
    (slice_get-get_or books c.args.mode c.index-books-mode.result (book_within modes.machines.now books c.args.mode c.requires.ready c.requires.mode))).reads

pub pack_block-requires-clause-words : goal.pack_block-requires-clause-words
pack_block-requires-clause-words c =
    let modes = c.args.modes.now in
    let books = c.args.books.now in
    steps_known modes c.args.mode c.args.steps.now _ _ c.mode_set-live.result (slice_get-get_or modes.machines.now c.args.mode _ c.requires.mode)
    (ready_at modes.machines.now books c.args.mode _ _ c.requires.ready (slice_get-get_or modes.machines.now c.args.mode _ c.requires.mode)
    (slice_get-get_or books c.args.mode c.index-books-mode.result (book_within modes.machines.now books c.args.mode c.requires.ready c.requires.mode))).ready
    c.mode_set-live.ensures c.requires.words

pub returns-clause-ready : goal.returns-clause-ready
returns-clause-ready c =
    ready_set c.args.modes.now.machines.now c.args.books.now c.args.mode _ c.pack_block.new.book c.requires.ready (slice_get-get_or c.args.modes.now.machines.now c.args.mode _ c.requires.mode) c.pack_block.ensures.ready

pub returns-in_err-packed-clause-ready : goal.returns-in_err-packed-clause-ready
returns-in_err-packed-clause-ready c =
    ready_set c.args.modes.now.machines.now c.args.books.now c.args.mode _ c.pack_block.new.book c.requires.ready (slice_get-get_or c.args.modes.now.machines.now c.args.mode _ c.requires.mode) c.pack_block.ensures.ready

pub returns-clause-packed : goal.returns-clause-packed
returns-clause-packed c =
    on_ok_weaker c.append.result
    (λ a. packed_in c.args.modes.now c.args.mode c.args.steps.now c.args.block.now c.append.new.block c.in_ok-packed.packed _ c.mode_set-live.result
    (slice_get-get_or c.args.modes.now.machines.now c.args.mode _ c.requires.mode) c.mode_set-live.ensures a c.in_ok-packed.ensures.once c.in_ok-packed.ensures.packed)
    c.append.ensures

pub returns-in_err-packed-clause-packed : goal.returns-in_err-packed-clause-packed
returns-in_err-packed-clause-packed c = IfOk-from_err c.from_residual.result _ c.from_residual.ensures.0
