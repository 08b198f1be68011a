use Rattle.std.proofs.lemmas.Result.{err_from_is_err_and}
use Rattle.isa_extract.proofs.OverModes.{clash_refused, limits_refused}
use Rattle.isa_extract.proofs.netlists.extract_netlist.Goals as goal

pub returns-in_err-controlled-clause-refused : goal.returns-in_err-controlled-clause-refused
returns-in_err-controlled-clause-refused c =
    let p = err_from_is_err_and c.from_residual.result c.from_residual.ensures.1 in
    rw (p.1, p.2) (clash_refused c.args.checked.now.netlist _ c.in_err-controlled.ensures.refused)

pub returns-clause-refused : goal.returns-clause-refused
returns-clause-refused c = limits_refused c.args.checked.now.netlist c.routed.result c.routed.ensures.refused
