use Rattle.std.proofs.Common.{◌≡◌, [], replicate}
use Rattle.route_trace.proofs.all_nets.new_routes.Given as goal

abbrev pub invariant-loop : goal.invariant-loop
invariant-loop l = l.routes ≡ replicate l.counter []
