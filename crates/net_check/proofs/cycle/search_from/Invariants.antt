use Rattle.std.proofs.Common.{◌≢◌, ◌+◌, ◌*◌, length}
use Rattle.net_check.specs.Inner.Components.{IsSearch, Later, mark_at, work}
use Rattle.net_check.specs.declared.cycle.Mark.TheVariants.{New}
use Rattle.net_check.proofs.cycle.search_from.Given as goal

abbrev pub invariant-loop-top : goal.invariant-loop-top
invariant-loop-top l = record {
  kept : IsSearch l.graph l.search.marks l.search.met l.search.starts l.search.path;
  later : Later l.fn.search.marks l.search.marks;
  here : mark_at l.search.marks l.root ≢ New;
}

abbrev pub decreases-loop-top : goal.decreases-loop-top
decreases-loop-top l = 2 * work l.graph l.search.marks + length l.search.path
