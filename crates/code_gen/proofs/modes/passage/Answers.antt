use Rattle.std.proofs.Common.{slice_set}
use Rattle.std.proofs.lemmas.Option.{slice_get-get_or}
use Rattle.net_model.proofs.ModeFaults.{some_modes}
use Rattle.code_gen.proofs.ByMode.{all_in, base_edition, base_mode, book_in, forms_at, machine_in, no_enter, no_leave, no_passage, passage_words, ready_at, ready_set}
use Rattle.code_gen.proofs.Held.{read}
use Rattle.code_gen.proofs.modes.passage.Goals as goal

-- ---- without a mode register

pub returns-in_default-clause-words : goal.returns-in_default-clause-words
returns-in_default-clause-words c = no_passage c.args.netlist.now c.args.machines.now c.args.list.now c.args.mode c.in_default.is

-- ---- the word of mode 0

pub word_in-requires-clause-ready : goal.word_in-requires-clause-ready
word_in-requires-clause-ready c =
    (ready_at c.args.machines.now c.args.books.now 0 c.index-machines-0.result _ c.requires.ready
    (read c.args.machines.now 0 c.index-machines-0.result (machine_in c.args.netlist.now c.args.machines.now c.requires.machines 0 (some_modes c.args.netlist.now)) c.index-machines-0.is)
    (slice_get-get_or c.args.books.now 0 c.index-books-0.result (book_in c.args.netlist.now c.args.machines.now c.requires.machines 0 (some_modes c.args.netlist.now) c.args.books.now c.requires.ready))).ready

pub word_in-requires-clause-mode : goal.word_in-requires-clause-mode
word_in-requires-clause-mode c =
    base_mode c.args.netlist.now c.requires.rules c.args.machines.now c.requires.machines c.in-Some.special c.in-Some.is 0 c.index-machines-0.result
    (read c.args.machines.now 0 c.index-machines-0.result (machine_in c.args.netlist.now c.args.machines.now c.requires.machines 0 (some_modes c.args.netlist.now)) c.index-machines-0.is)

pub word_in-requires-clause-edition : goal.word_in-requires-clause-edition
word_in-requires-clause-edition c =
    base_edition c.args.netlist.now c.requires.rules c.args.machines.now c.requires.machines c.in-Some.special c.in-Some.is 0 c.index-machines-0.result
    (read c.args.machines.now 0 c.index-machines-0.result (machine_in c.args.netlist.now c.args.machines.now c.requires.machines 0 (some_modes c.args.netlist.now)) c.index-machines-0.is)

pub word_in-requires-clause-forms : goal.word_in-requires-clause-forms
word_in-requires-clause-forms c =
    forms_at c.args.netlist.now c.requires.rules c.args.machines.now c.requires.machines c.args.list.now c.requires.forms c.in-Some.special c.in-Some.is 0 c.index-machines-0.result c.index.result.now
    (read c.args.machines.now 0 c.index-machines-0.result (machine_in c.args.netlist.now c.args.machines.now c.requires.machines 0 (some_modes c.args.netlist.now)) c.index-machines-0.is)
    (read c.args.list.now.all.items 0 c.index.result.now (all_in c.args.netlist.now c.args.machines.now c.args.list.now c.in-Some.special c.in-Some.is c.requires.forms 0 (some_modes c.args.netlist.now)) c.index.ensures)

pub returns-in_default-2-clause-words : goal.returns-in_default-2-clause-words
returns-in_default-2-clause-words c =
    no_enter c.args.netlist.now c.requires.rules c.args.machines.now c.requires.machines c.args.list.now c.requires.forms c.in-Some.special c.in-Some.is c.args.mode c.index-machines-0.result c.index.result.now
    (read c.args.machines.now 0 c.index-machines-0.result (machine_in c.args.netlist.now c.args.machines.now c.requires.machines 0 (some_modes c.args.netlist.now)) c.index-machines-0.is)
    (read c.args.list.now.all.items 0 c.index.result.now (all_in c.args.netlist.now c.args.machines.now c.args.list.now c.in-Some.special c.in-Some.is c.requires.forms 0 (some_modes c.args.netlist.now)) c.index.ensures)
    (rw c.in_default-2.is at c.in_ok-enter.ensures.word)

-- ---- the word of the mode

pub bounds-books-mode : goal.bounds-books-mode
bounds-books-mode c =
    book_in c.args.netlist.now c.args.machines.now c.requires.machines c.args.mode c.requires.within (slice_set c.args.books.now 0 c.word_in.new.book)
    (ready_set c.args.machines.now c.args.books.now 0 c.index-machines-0.result c.word_in.new.book c.requires.ready (read c.args.machines.now 0 c.index-machines-0.result (machine_in c.args.netlist.now c.args.machines.now c.requires.machines 0 (some_modes c.args.netlist.now)) c.index-machines-0.is) c.word_in.ensures.ready)

pub word_in-requires-2-clause-ready : goal.word_in-requires-2-clause-ready
word_in-requires-2-clause-ready c =
    (ready_at c.args.machines.now (slice_set c.args.books.now 0 c.word_in.new.book) c.args.mode c.index-machines-mode.result _
    (ready_set c.args.machines.now c.args.books.now 0 c.index-machines-0.result c.word_in.new.book c.requires.ready (read c.args.machines.now 0 c.index-machines-0.result (machine_in c.args.netlist.now c.args.machines.now c.requires.machines 0 (some_modes c.args.netlist.now)) c.index-machines-0.is) c.word_in.ensures.ready)
    (read c.args.machines.now c.args.mode c.index-machines-mode.result (machine_in c.args.netlist.now c.args.machines.now c.requires.machines c.args.mode c.requires.within) c.index-machines-mode.is)
    (slice_get-get_or (slice_set c.args.books.now 0 c.word_in.new.book) c.args.mode c.index-books-mode.result
    (book_in c.args.netlist.now c.args.machines.now c.requires.machines c.args.mode c.requires.within (slice_set c.args.books.now 0 c.word_in.new.book)
    (ready_set c.args.machines.now c.args.books.now 0 c.index-machines-0.result c.word_in.new.book c.requires.ready (read c.args.machines.now 0 c.index-machines-0.result (machine_in c.args.netlist.now c.args.machines.now c.requires.machines 0 (some_modes c.args.netlist.now)) c.index-machines-0.is) c.word_in.ensures.ready)))).ready

pub word_in-requires-2-clause-mode : goal.word_in-requires-2-clause-mode
word_in-requires-2-clause-mode c =
    base_mode c.args.netlist.now c.requires.rules c.args.machines.now c.requires.machines c.in-Some.special c.in-Some.is c.args.mode c.index-machines-mode.result
    (read c.args.machines.now c.args.mode c.index-machines-mode.result (machine_in c.args.netlist.now c.args.machines.now c.requires.machines c.args.mode c.requires.within) c.index-machines-mode.is)

pub word_in-requires-2-clause-edition : goal.word_in-requires-2-clause-edition
word_in-requires-2-clause-edition c =
    base_edition c.args.netlist.now c.requires.rules c.args.machines.now c.requires.machines c.in-Some.special c.in-Some.is c.args.mode c.index-machines-mode.result
    (read c.args.machines.now c.args.mode c.index-machines-mode.result (machine_in c.args.netlist.now c.args.machines.now c.requires.machines c.args.mode c.requires.within) c.index-machines-mode.is)

pub word_in-requires-2-clause-forms : goal.word_in-requires-2-clause-forms
word_in-requires-2-clause-forms c =
    forms_at c.args.netlist.now c.requires.rules c.args.machines.now c.requires.machines c.args.list.now c.requires.forms c.in-Some.special c.in-Some.is c.args.mode c.index-machines-mode.result c.index-2.result.now
    (read c.args.machines.now c.args.mode c.index-machines-mode.result (machine_in c.args.netlist.now c.args.machines.now c.requires.machines c.args.mode c.requires.within) c.index-machines-mode.is)
    (read c.args.list.now.all.items c.args.mode c.index-2.result.now (all_in c.args.netlist.now c.args.machines.now c.args.list.now c.in-Some.special c.in-Some.is c.requires.forms c.args.mode c.requires.within) c.index-2.ensures)

pub returns-in_default-3-clause-words : goal.returns-in_default-3-clause-words
returns-in_default-3-clause-words c =
    no_leave c.args.netlist.now c.requires.rules c.args.machines.now c.requires.machines c.args.list.now c.requires.forms c.in-Some.special c.in-Some.is c.args.mode c.index-machines-mode.result c.index-2.result.now
    (read c.args.machines.now c.args.mode c.index-machines-mode.result (machine_in c.args.netlist.now c.args.machines.now c.requires.machines c.args.mode c.requires.within) c.index-machines-mode.is)
    (read c.args.list.now.all.items c.args.mode c.index-2.result.now (all_in c.args.netlist.now c.args.machines.now c.args.list.now c.in-Some.special c.in-Some.is c.requires.forms c.args.mode c.requires.within) c.index-2.ensures)
    (rw c.in_default-3.is at c.in_ok-leave.ensures.word)

-- ---- both

pub returns-in_err-leave-clause-ready : goal.returns-in_err-leave-clause-ready
returns-in_err-leave-clause-ready c =
    ready_set c.args.machines.now (slice_set c.args.books.now 0 c.word_in.new.book) c.args.mode c.index-machines-mode.result c.word_in-2.new.book (ready_set c.args.machines.now c.args.books.now 0 c.index-machines-0.result c.word_in.new.book c.requires.ready (read c.args.machines.now 0 c.index-machines-0.result (machine_in c.args.netlist.now c.args.machines.now c.requires.machines 0 (some_modes c.args.netlist.now)) c.index-machines-0.is) c.word_in.ensures.ready)
    (read c.args.machines.now c.args.mode c.index-machines-mode.result (machine_in c.args.netlist.now c.args.machines.now c.requires.machines c.args.mode c.requires.within) c.index-machines-mode.is) c.word_in-2.ensures.ready

pub returns-in_default-3-clause-ready : goal.returns-in_default-3-clause-ready
returns-in_default-3-clause-ready c =
    ready_set c.args.machines.now (slice_set c.args.books.now 0 c.word_in.new.book) c.args.mode c.index-machines-mode.result c.word_in-2.new.book (ready_set c.args.machines.now c.args.books.now 0 c.index-machines-0.result c.word_in.new.book c.requires.ready (read c.args.machines.now 0 c.index-machines-0.result (machine_in c.args.netlist.now c.args.machines.now c.requires.machines 0 (some_modes c.args.netlist.now)) c.index-machines-0.is) c.word_in.ensures.ready)
    (read c.args.machines.now c.args.mode c.index-machines-mode.result (machine_in c.args.netlist.now c.args.machines.now c.requires.machines c.args.mode c.requires.within) c.index-machines-mode.is) c.word_in-2.ensures.ready

pub returns-clause-ready : goal.returns-clause-ready
returns-clause-ready c =
    ready_set c.args.machines.now (slice_set c.args.books.now 0 c.word_in.new.book) c.args.mode c.index-machines-mode.result c.word_in-2.new.book (ready_set c.args.machines.now c.args.books.now 0 c.index-machines-0.result c.word_in.new.book c.requires.ready (read c.args.machines.now 0 c.index-machines-0.result (machine_in c.args.netlist.now c.args.machines.now c.requires.machines 0 (some_modes c.args.netlist.now)) c.index-machines-0.is) c.word_in.ensures.ready)
    (read c.args.machines.now c.args.mode c.index-machines-mode.result (machine_in c.args.netlist.now c.args.machines.now c.requires.machines c.args.mode c.requires.within) c.index-machines-mode.is) c.word_in-2.ensures.ready

pub returns-clause-words : goal.returns-clause-words
returns-clause-words c =
    passage_words c.args.netlist.now c.requires.rules c.args.machines.now c.requires.machines c.args.list.now c.requires.forms c.in-Some.special c.in-Some.is c.args.mode c.index-machines-0.result c.index-machines-mode.result c.index.result.now c.index-2.result.now
    (read c.args.machines.now 0 c.index-machines-0.result (machine_in c.args.netlist.now c.args.machines.now c.requires.machines 0 (some_modes c.args.netlist.now)) c.index-machines-0.is)
    (read c.args.machines.now c.args.mode c.index-machines-mode.result (machine_in c.args.netlist.now c.args.machines.now c.requires.machines c.args.mode c.requires.within) c.index-machines-mode.is)
    (read c.args.list.now.all.items 0 c.index.result.now (all_in c.args.netlist.now c.args.machines.now c.args.list.now c.in-Some.special c.in-Some.is c.requires.forms 0 (some_modes c.args.netlist.now)) c.index.ensures)
    (read c.args.list.now.all.items c.args.mode c.index-2.result.now (all_in c.args.netlist.now c.args.machines.now c.args.list.now c.in-Some.special c.in-Some.is c.requires.forms c.args.mode c.requires.within) c.index-2.ensures)
    c.in-Some-2.enter c.in-Some-3.leave (rw c.in-Some-2.is at c.in_ok-enter.ensures.word) (rw c.in-Some-3.is at c.in_ok-leave.ensures.word)
