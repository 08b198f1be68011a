use Rattle.std.proofs.lemmas.Result.{IfOk-from_err}
use Rattle.bit_bdd.proofs.CallerLemmas.{extends_trans}
use Rattle.form_set.proofs.Chosen.{jump_told}
use Rattle.form_set.proofs.Holding.{ids_later}
use Rattle.transfer_set.proofs.ReadyLaws.{ready_later}
use Rattle.form_set.proofs.words.can_jump.Goals as goal

pub returns-clause-can : goal.returns-clause-can
returns-clause-can c =
    let netlist = c.args.machine.now.checked.now.netlist in
    let grows = c.in_ok-words.ensures.grows in
    jump_told netlist c.jump_words.new.book c.args.machine.now.pool.now c.args.machine.now.patterns.now
    (ready_later netlist c.args.book.now c.jump_words.new.book c.args.machine.now.pool.now c.args.machine.now.patterns.now grows c.requires.ready)
    c.args.ids (ids_later netlist c.args.book.now c.jump_words.new.book c.args.machine.now.pool.now c.args.ids grows c.requires.ids)
    c.in_ok-words.words c.in_ok-words.ensures.words c.in_ok-can.can c.in_ok-can.ensures.all

pub returns-in_err-can-clause-grows : goal.returns-in_err-can-clause-grows
returns-in_err-can-clause-grows c =
    extends_trans c.args.book.now c.jump_words.new.book c.has_all.new.book c.in_ok-words.ensures.grows c.in_err-can.ensures.grows

pub returns-clause-grows : goal.returns-clause-grows
returns-clause-grows c =
    extends_trans c.args.book.now c.jump_words.new.book c.has_all.new.book c.in_ok-words.ensures.grows c.in_ok-can.ensures.grows

pub jump_words-requires-clause-ready : goal.jump_words-requires-clause-ready
jump_words-requires-clause-ready c = c.requires.ready

pub jump_words-requires-clause-ids : goal.jump_words-requires-clause-ids
jump_words-requires-clause-ids c = c.requires.ids

pub returns-in_err-words-clause-grows : goal.returns-in_err-words-clause-grows
returns-in_err-words-clause-grows c = c.jump_words.ensures.grows

pub has_all-requires-clause-set : goal.has_all-requires-clause-set
has_all-requires-clause-set c = c.in_ok-words.ensures.words.within

pub returns-in_err-words-clause-can : goal.returns-in_err-words-clause-can
returns-in_err-words-clause-can c = IfOk-from_err c.from_residual.result _ c.from_residual.ensures.0

pub returns-in_err-can-clause-can : goal.returns-in_err-can-clause-can
returns-in_err-can-clause-can c = IfOk-from_err c.from_residual-in_err-can.result _ c.from_residual-in_err-can.ensures.0
