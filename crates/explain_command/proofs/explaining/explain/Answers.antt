use Rattle.std.proofs.lemmas.Result.{err_from_is_err_and}
use Rattle.explain_command.proofs.Early.{of_netlist}
use Rattle.explain_command.proofs.explaining.explain.Goals as goal

pub returns-clause-explained : goal.returns-clause-explained
returns-clause-explained c = c.explain_on-text.ensures.explained c.args.net.now c.in_ok-modes.ensures.found

pub returns-clause-refused : goal.returns-clause-refused
returns-clause-refused c = c.explain_on-text.ensures.refused c.args.net.now c.in_ok-modes.ensures.found

pub returns-in_err-modes-clause-refused : goal.returns-in_err-modes-clause-refused
returns-in_err-modes-clause-refused c =
    let p = err_from_is_err_and c.from_residual.result c.from_residual.ensures.1 in
    rw (p.1, p.2) (of_netlist c.args.net.now c.args.src.now _ c.in_err-modes.ensures.refused)
