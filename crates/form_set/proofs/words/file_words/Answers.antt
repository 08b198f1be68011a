use Rattle.form_set.proofs.Chosen.{no_file_set, other_file_set}
use Rattle.form_set.proofs.words.file_words.Goals as goal

pub returns-in-None-clause-words : goal.returns-in-None-clause-words
returns-in-None-clause-words c =
    no_file_set c.args.machine.now.checked.now.netlist c.args.book.now c.args.book.now c.args.machine.now.pool.now c.args.machine.now.patterns.now c.requires.ready c.args.ids c.args.words
    (cc (c.in-None.is, c.file.ensures)) c.requires.words

pub returns-in_ok-kept-in-Some-clause-words : goal.returns-in_ok-kept-in-Some-clause-words
returns-in_ok-kept-in-Some-clause-words c =
    other_file_set c.args.machine.now.checked.now.netlist c.args.book.now c.and.new.self c.args.machine.now.pool.now c.args.machine.now.patterns.now c.requires.ready c.args.ids c.args.words c.in-Some.file
    (cc (c.in-Some.is, c.file.ensures)) c.if-ids-file.false c.requires.words
    c.keep_of.result c.keep_of.ensures c.in_ok-kept-in-Some.kept c.in_ok-kept-in-Some.ensures.grows c.in_ok-kept-in-Some.ensures.within c.in_ok-kept-in-Some.ensures.words
