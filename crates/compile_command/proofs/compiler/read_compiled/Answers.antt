use Rattle.std.proofs.lemmas.Result.{err_from_is_err_and}
use Rattle.compile_command.proofs.TaskLemmas.{fault_of_code, read_refused}
use Rattle.compile_command.proofs.compiler.read_compiled.Goals as goal

pub returns-in_err-modes-clause-refused : goal.returns-in_err-modes-clause-refused
returns-in_err-modes-clause-refused c =
    let p = err_from_is_err_and c.from_residual.result c.from_residual.ensures.1 in
    rw (p.1, p.2) (read_refused c.args.net.now c.args.src.now _ c.in_err-modes.ensures.refused)

pub returns-in_err-image-clause-refused : goal.returns-in_err-image-clause-refused
returns-in_err-image-clause-refused c =
    let read = c.in_ok-modes.ensures.read in
    let p = err_from_is_err_and c.from_residual-in_err-image.result c.from_residual-in_err-image.ensures.1 in
    rw (p.1, p.2)
    (fault_of_code c.args.net.now c.args.src.now c.in_ok-modes.modes c.in_ok-modes.typed read.net_file read.width read.src_file _ c.in_err-image.ensures.refused)

pub returns-clause-compiled : goal.returns-clause-compiled
returns-clause-compiled c = record { read = c.in_ok-modes.ensures.read; image = c.in_ok-image.ensures.image }
