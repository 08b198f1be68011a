use Rattle.std.proofs.Common.{◌≡◌, drop}
use Rattle.route_trace.specs.Inner.Tests.{target}
use Rattle.route_trace.proofs.cases.target_of.Given as goal

abbrev pub invariant-loop-row : goal.invariant-loop-row
invariant-loop-row l = target l.rows l.key l.rest ≡ target (drop l.row-index l.rows) l.key l.rest
