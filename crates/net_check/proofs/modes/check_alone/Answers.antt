use Rattle.std.proofs.lemmas.Result.{err_from_is_err_and}
use Rattle.net_check.proofs.InModes.{alone_refused}
use Rattle.net_check.proofs.modes.check_alone.Goals as goal

pub returns-in_err-checked : goal.returns-in_err-checked
returns-in_err-checked c =
    let p = err_from_is_err_and c.from_residual.result c.from_residual.ensures.1 in
    rw (p.1, p.2) (alone_refused c.args.netlist _ c.requires.alone c.in_err-checked.ensures.found)
