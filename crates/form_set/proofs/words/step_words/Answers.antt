use Rattle.std.proofs.Common.{arith}
use Rattle.std.proofs.lemmas.Grind.{common_steps}
use Rattle.bit_bdd.proofs.CallerLemmas.{extends_trans}
use Rattle.form_set.proofs.Holding.{ids_later}
use Rattle.transfer_set.proofs.ReadyLaws.{ready_later}
use Rattle.form_set.proofs.words.step_words.Goals as goal

pub memory_words-requires-clause-ready : goal.memory_words-requires-clause-ready
memory_words-requires-clause-ready c =
    ready_later c.args.machine.now.checked.now.netlist c.args.book.now c.and.new.self c.args.machine.now.pool.now c.args.machine.now.patterns.now c.in_ok-steps.ensures.grows c.requires.ready

pub memory_words-requires-clause-ids : goal.memory_words-requires-clause-ids
memory_words-requires-clause-ids c =
    ids_later c.args.machine.now.checked.now.netlist c.args.book.now c.and.new.self c.args.machine.now.pool.now c.args.ids c.in_ok-steps.ensures.grows c.requires.ids

pub file_words-requires-clause-ready : goal.file_words-requires-clause-ready
file_words-requires-clause-ready c =
    ready_later c.args.machine.now.checked.now.netlist c.args.book.now c.memory_words.new.book c.args.machine.now.pool.now c.args.machine.now.patterns.now
    (extends_trans c.args.book.now c.and.new.self c.memory_words.new.book c.in_ok-steps.ensures.grows c.in_ok-words.ensures.grows) c.requires.ready

pub file_words-requires-clause-ids : goal.file_words-requires-clause-ids
file_words-requires-clause-ids c =
    ids_later c.args.machine.now.checked.now.netlist c.args.book.now c.memory_words.new.book c.args.machine.now.pool.now c.args.ids
    (extends_trans c.args.book.now c.and.new.self c.memory_words.new.book c.in_ok-steps.ensures.grows c.in_ok-words.ensures.grows) c.requires.ids

pub returns-in_err-words-clause-grows : goal.returns-in_err-words-clause-grows
returns-in_err-words-clause-grows c = grind (arith, common_steps)

pub returns-in_err-kept-clause-grows : goal.returns-in_err-kept-clause-grows
returns-in_err-kept-clause-grows c = grind (arith, common_steps)

pub returns-clause-grows : goal.returns-clause-grows
returns-clause-grows c = grind (arith, common_steps)
