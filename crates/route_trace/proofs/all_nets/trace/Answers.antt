use Rattle.std.proofs.lemmas.Result.{IfOk-from_err}
use Rattle.std.proofs.Common.{sym}
use Rattle.route_trace.proofs.Judging.{all_kept_by, keeps_limits, refused_by}
use Rattle.route_trace.proofs.all_nets.trace.Goals as goal

pub returns-in-Some-clause-refusal : goal.returns-in-Some-clause-refusal
returns-in-Some-clause-refusal c =
    refused_by c.args.checked.now.netlist c.in_ok-of.verdicts c.in_ok-of.ensures.judged c.in_ok-of.ensures.found c.in-Some.fault (sym (rw c.as_slice.ensures at c.in-Some.ensures))

pub returns-in-None-clause-routes : goal.returns-in-None-clause-routes
returns-in-None-clause-routes c =
    let kept = all_kept_by c.args.checked.now.netlist c.in_ok-of.verdicts c.in_ok-of.ensures.judged c.in_ok-of.ensures.found (sym (rw c.as_slice.ensures at c.in-None.ensures)) in
    record { long = c.in_ok-of.ensures.long; tables = c.in_ok-of.ensures.tables; gives = λ n lt. c.in_ok-of.ensures.gives n lt (kept n lt) }

pub returns-in-None-clause-limits : goal.returns-in-None-clause-limits
returns-in-None-clause-limits c =
    keeps_limits c.args.checked.now.netlist c.in_ok-of.verdicts c.in_ok-of.ensures.judged c.in_ok-of.ensures.found (sym (rw c.as_slice.ensures at c.in-None.ensures))

pub returns-in_err-of-clause-routes : goal.returns-in_err-of-clause-routes
returns-in_err-of-clause-routes c = IfOk-from_err c.from_residual.result _ c.from_residual.ensures.0

pub returns-in_err-of-clause-limits : goal.returns-in_err-of-clause-limits
returns-in_err-of-clause-limits c = IfOk-from_err c.from_residual.result _ c.from_residual.ensures.0
