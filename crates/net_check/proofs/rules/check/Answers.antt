use Rattle.std.proofs.lemmas.Result.{err_from_is_err_and}
use Rattle.net_model.proofs.FaultLaws.{only_memory, only_fault, kept_no_fault}
use Rattle.net_check.proofs.rules.check.Goals as goal

pub returns-in_err-order-clause-accepted : goal.returns-in_err-order-clause-accepted
returns-in_err-order-clause-accepted c =
    let p = err_from_is_err_and c.from_residual.result c.from_residual.ensures.1 in
    λ order k. rw (p.1, p.2) (only_memory c.args.netlist _ c.in_err-order.ensures order k)

pub returns-in_err-order-clause-refused : goal.returns-in_err-order-clause-refused
returns-in_err-order-clause-refused c =
    let p = err_from_is_err_and c.from_residual.result c.from_residual.ensures.1 in
    λ fault f. rw (p.1, p.2) (only_fault c.args.netlist _ c.in_err-order.ensures fault f)

pub returns-clause-refused : goal.returns-clause-refused
returns-clause-refused c = λ fault f. kept_no_fault c.args.netlist _ c.in_ok-order.ensures fault f
