use Rattle.std.proofs.Common.{ℕ, ◌≤◌, length}
use Rattle.net_model.specs.Depends.{Among}
use Rattle.net_check.specs.Inner.Components.{Rising}
use Rattle.net_check.proofs.cycle.merge.Given as goal

abbrev pub invariant-loop-start : goal.invariant-loop-start
invariant-loop-start l = record {
  rising : Rising l.starts;
  from : (s : ℕ) → Among s l.starts → Among s l.fn.starts;
  kept : (s : ℕ) → Among s l.fn.starts → s ≤ l.at → Among s l.starts;
}

abbrev pub decreases-loop-start : goal.decreases-loop-start
decreases-loop-start l = length l.starts
