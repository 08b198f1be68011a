use Rattle.std.proofs.Common.{◌≡◌, ◌≢◌, ℕ, ◌<◌, []}
use Rattle.net_check.specs.Inner.Components.{IsSearch, mark_at}
use Rattle.net_check.specs.declared.cycle.Mark.TheVariants.{New}
use Rattle.net_check.proofs.cycle.search_all.Given as goal

abbrev pub invariant-loop-root : goal.invariant-loop-root
invariant-loop-root l = record {
  kept : IsSearch l.graph l.search.marks l.search.met l.search.starts l.search.path;
  empty : l.search.path ≡ [];
  done : (m : ℕ) → m < l.root → mark_at l.search.marks m ≢ New;
}
