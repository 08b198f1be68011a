use Rattle.std.proofs.lemmas.Result.{IfOk-from_err}
use Rattle.std.proofs.Common.{[]}
use Rattle.std.proofs.lemmas.List.{replicate_more}
use Rattle.route_trace.proofs.all_nets.new_routes.Goals as goal

pub loop-preserved : goal.loop-preserved
loop-preserved c = rw c.in_ok-push.ensures.pushed (rw (c.loop.invariant, c.new.ensures) (replicate_more c.loop.counter []))

pub returns-in_err-push : goal.returns-in_err-push
returns-in_err-push c = IfOk-from_err c.from_residual.result _ c.from_residual.ensures.0
