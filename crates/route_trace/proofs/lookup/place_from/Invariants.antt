use Rattle.std.proofs.Common.{◌≡◌, [], take}
use Rattle.transfer_set.specs.Routes.{exprs_under}
use Rattle.route_trace.proofs.lookup.place_from.Given as goal

abbrev pub invariant-loop-place : goal.invariant-loop-place
invariant-loop-place l = l.start ≡ 0 → exprs_under l.book (take l.place l.routes) l.word ≡ []
