use Rattle.std.proofs.lemmas.Result.{err_from_is_err_and}
use Rattle.compile_command.proofs.TaskLemmas.{holds_of_read}
use Rattle.tune_command.specs.Tuned.{IsTunedCode}
use Rattle.tune_command.proofs.FaultLemmas.{fault_of_code, fault_of_read}
use Rattle.tune_command.proofs.compiler.tune.Goals as goal

pub text-requires-clause-rules : goal.text-requires-clause-rules
text-requires-clause-rules c = c.in_ok-modes.ensures.checked.rules

pub text-requires-clause-fits : goal.text-requires-clause-fits
text-requires-clause-fits c = c.in_ok-image.ensures.image.fits

pub returns-in_err-modes-clause-refused : goal.returns-in_err-modes-clause-refused
returns-in_err-modes-clause-refused c =
    let p = err_from_is_err_and c.from_residual.result c.from_residual.ensures.1 in
    rw (p.1, p.2) (fault_of_read c.args.net.now c.args.src.now _ c.in_err-modes.ensures.refused)

pub returns-in_err-image-clause-refused : goal.returns-in_err-image-clause-refused
returns-in_err-image-clause-refused c =
    let p = err_from_is_err_and c.from_residual-in_err-image.result c.from_residual-in_err-image.ensures.1 in
    rw (p.1, p.2)
    (fault_of_code c.args.net.now c.args.src.now c.in_ok-modes.modes c.in_ok-modes.typed c.in_ok-modes.ensures.read _ c.in_err-image.ensures.refused)

pub returns-clause-right : goal.returns-clause-right
returns-clause-right c =
    let read = c.in_ok-modes.ensures.read in
    holds_of_read c.args.net.now c.args.src.now c.in_ok-modes.modes c.in_ok-modes.typed read.net_file read.width read.src_file (IsTunedCode c.in_ok-text.text.items)
    (record { image = c.in_ok-image.image; right = c.in_ok-image.ensures.image; read = c.in_ok-text.ensures })
