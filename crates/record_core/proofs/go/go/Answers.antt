use Rattle.std.proofs.lemmas.Result.{err_from_is_err_and}
use Rattle.record_core.proofs.GoLemmas.{answers_watched, go_fault, memory_fault}
use Rattle.record_core.proofs.go.go.Goals as goal

pub returns-in_err-program-clause-refused : goal.returns-in_err-program-clause-refused
returns-in_err-program-clause-refused g c = λ line.
    let p = err_from_is_err_and c.from_residual.result c.from_residual.ensures.1 in
    rw (p.1, p.2) (go_fault line c.args.net.now c.args.src.now c.args.memory.now c.args.clocks c.in_err-program.field-0.0 c.in_err-program.ensures.refused)

pub returns-in_err-put-clause-refused : goal.returns-in_err-put-clause-refused
returns-in_err-put-clause-refused g c = λ line.
    let p = err_from_is_err_and c.from_residual-in_err-put.result c.from_residual-in_err-put.ensures.1 in
    rw (p.1, p.2)
    (memory_fault line c.args.net.now c.args.src.now c.args.memory.now c.args.clocks c.in_ok-program.program c.in_ok-program.ensures.compiled c.in_err-put.field-0.0 c.in_err-put.ensures.refused)

pub returns-clause-done : goal.returns-clause-done
returns-clause-done g c = λ line.
    let d = c.in_ok-put.ensures.done in
    record {
      text = d.text;
      answers = answers_watched line c.args.net.now c.args.src.now c.args.memory.now c.args.clocks c.in_ok-program.program c.in_ok-program.ensures.compiled d.text d.watched;
      puts = d.puts;
    }
