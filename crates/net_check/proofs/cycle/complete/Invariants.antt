use Rattle.std.proofs.Common.{length}
use Rattle.net_check.specs.Inner.Components.{IsCompleting}
use Rattle.net_check.proofs.cycle.complete.Given as goal

abbrev pub invariant-loop-search : goal.invariant-loop-search
invariant-loop-search l = IsCompleting l.graph l.index l.told l.fn.search l.search

abbrev pub decreases-loop-search : goal.decreases-loop-search
decreases-loop-search l = length l.search.met
