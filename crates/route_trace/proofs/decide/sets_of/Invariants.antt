use Rattle.std.proofs.Common.{◌≡◌, drop}
use Rattle.route_trace.specs.Inner.Tests.{sets_in}
use Rattle.route_trace.proofs.decide.sets_of.Given as goal

abbrev pub invariant-loop-entry : goal.invariant-loop-entry
invariant-loop-entry l = sets_in l.controls.bits l.net ≡ sets_in (drop l.entry-index l.controls.bits) l.net
