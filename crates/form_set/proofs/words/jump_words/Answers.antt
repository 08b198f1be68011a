use Rattle.std.proofs.lemmas.Result.{IfOk-from_err}
use Rattle.form_set.proofs.Chosen.{jump_set}
use Rattle.form_set.proofs.words.jump_words.Goals as goal

pub returns-clause-words : goal.returns-clause-words
returns-clause-words c =
    jump_set c.args.machine.now.checked.now.netlist c.args.book.now c.and.new.self c.args.machine.now.pool.now c.args.machine.now.patterns.now c.requires.ready c.args.ids c.requires.ids
    c.memory.result c.memory.ensures c.keep_of.result c.keep_of.ensures c.in_ok-words.words c.in_ok-words.ensures.grows c.in_ok-words.ensures.within c.in_ok-words.ensures.words

pub and-requires-clause-a : goal.and-requires-clause-a
and-requires-clause-a c = c.requires.ids.set.within

pub returns-in_err-words-clause-grows : goal.returns-in_err-words-clause-grows
returns-in_err-words-clause-grows c = c.and.ensures.grows

pub returns-clause-grows : goal.returns-clause-grows
returns-clause-grows c = c.and.ensures.grows

pub returns-in_err-words-clause-words : goal.returns-in_err-words-clause-words
returns-in_err-words-clause-words c = IfOk-from_err c.from_residual.result _ c.from_residual.ensures.0
