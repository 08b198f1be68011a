use Rattle.bit_bdd.proofs.CallerLemmas.{extends_trans}
use Rattle.form_set.specs.Inner.PatternIds.{pattern_in}
use Rattle.form_set.proofs.Chosen.{turn_set, turn_told}
use Rattle.form_set.proofs.Holding.{ids_later}
use Rattle.transfer_set.proofs.ReadyLaws.{ready_later}
use Rattle.form_set.proofs.words.turns.Goals as goal

pub returns-clause-can : goal.returns-clause-can
returns-clause-can c =
    let netlist = c.args.machine.now.checked.now.netlist in
    let pool = c.args.machine.now.pool.now in
    let table = c.args.machine.now.patterns.now in
    let first = c.in_ok-memory.ensures.grows in
    let grows = extends_trans c.args.book.now c.jump_words.new.book c.and.new.self first c.in_ok-words.ensures.grows in
    let kept = turn_set netlist c.jump_words.new.book c.and.new.self pool table (ready_later netlist c.args.book.now c.jump_words.new.book pool table first c.requires.ready)
    (pattern_in c.args.machine.now c.args.ids) c.in_ok-memory.memory c.in_ok-memory.ensures.words c.args.mode c.requires.mode c.keep_of.result c.keep_of.ensures
    c.in_ok-words.words c.in_ok-words.ensures.grows c.in_ok-words.ensures.within c.in_ok-words.ensures.words in
    turn_told netlist c.and.new.self pool table (ready_later netlist c.args.book.now c.and.new.self pool table grows c.requires.ready)
    c.args.ids (ids_later netlist c.args.book.now c.and.new.self pool c.args.ids grows c.requires.ids)
    c.args.mode c.in_ok-words.words kept c.in_ok-can.can c.in_ok-can.ensures.all

pub and-requires-clause-a : goal.and-requires-clause-a
and-requires-clause-a c = c.in_ok-memory.ensures.words.within

pub returns-in_err-words-clause-grows : goal.returns-in_err-words-clause-grows
returns-in_err-words-clause-grows c =
    extends_trans c.args.book.now c.jump_words.new.book c.and.new.self c.in_ok-memory.ensures.grows c.in_err-words.ensures.grows

pub returns-in_err-can-clause-grows : goal.returns-in_err-can-clause-grows
returns-in_err-can-clause-grows c =
    extends_trans c.args.book.now c.and.new.self c.has_all.new.book
    (extends_trans c.args.book.now c.jump_words.new.book c.and.new.self c.in_ok-memory.ensures.grows c.in_ok-words.ensures.grows) c.in_err-can.ensures.grows

pub returns-clause-grows : goal.returns-clause-grows
returns-clause-grows c =
    extends_trans c.args.book.now c.and.new.self c.has_all.new.book
    (extends_trans c.args.book.now c.jump_words.new.book c.and.new.self c.in_ok-memory.ensures.grows c.in_ok-words.ensures.grows) c.in_ok-can.ensures.grows
