use Rattle.std.proofs.lemmas.Result.{IfOk-weaker, IfErr-weaker}
use Rattle.run_command.proofs.FaultLaws.{read_words_fit, shows_of_end, fault_of_end}
use Rattle.run_command.proofs.machine.run.Goals as goal

pub clocked-requires-clause-words : goal.clocked-requires-clause-words
clocked-requires-clause-words c =
    let read = c.in_ok-words.ensures.found in
    rw read.words_are (read_words_fit c.args.net.now c.args.image.now c.in_ok-modes.modes c.in_ok-modes.ensures.found read.said read.image_text)

pub returns-clause-shows : goal.returns-clause-shows
returns-clause-shows c =
    let read = c.in_ok-words.ensures.found in
    IfOk-weaker c.clocked.result _ _
    (λ text end. shows_of_end c.args.net.now c.args.image.now c.args.memory.now c.args.clocks c.in_ok-modes.modes c.in_ok-modes.ensures.found read.said read.image_text
    c.in_ok-start.start c.in_ok-start.ensures.found text.items (rw read.words_are at end))
    c.clocked.ensures.text

pub returns-clause-refused : goal.returns-clause-refused
returns-clause-refused c =
    let read = c.in_ok-words.ensures.found in
    IfErr-weaker c.clocked.result _ _
    (λ fault end. fault_of_end c.args.net.now c.args.image.now c.args.memory.now c.args.clocks c.in_ok-modes.modes c.in_ok-modes.ensures.found read.said read.image_text
    c.in_ok-start.start c.in_ok-start.ensures.found fault (rw read.words_are at end))
    c.clocked.ensures.refused
