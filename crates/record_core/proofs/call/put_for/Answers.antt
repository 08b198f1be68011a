use Rattle.std.specs.Prelude.{[]}
use Rattle.record_core.specs.Answers.{netlist_in}
use Rattle.record_core.specs.Inner.Fetch.{contents}
use Rattle.record_core.specs.Lines.{due_line}
use Rattle.record_core.specs.Words.{texts_of}
use Rattle.record_core.proofs.AnswerLemmas.{text_refused}
use Rattle.record_core.proofs.call.put_for.Goals as goal

pub returns-in-Ok-clause-done : goal.returns-in-Ok-clause-done
returns-in-Ok-clause-done g c =
    c.in-Ok.ensures (due_line (texts_of c.args.words.now) (netlist_in c.args.command (contents c.args.files.now)))

pub returns-in-Err-clause-refused : goal.returns-in-Err-clause-refused
returns-in-Err-clause-refused g c =
    let words = texts_of c.args.words.now in
    let files = contents c.args.files.now in
    let net = netlist_in c.args.command files in
    let stop = c.in-Err.stop in
    text_refused words net stop.told (due_line words net) c.args.command files stop.status c.command_refused.result
    (c.in-Err.ensures (due_line words net)).refused c.command_refused.ensures

pub returns-in-Err-clause-still : goal.returns-in-Err-clause-still
returns-in-Err-clause-still g c = (c.in-Err.ensures (due_line (texts_of c.args.words.now) [])).still
