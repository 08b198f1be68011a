use Rattle.std.proofs.Common.{◌≡◌, ◌≤◌, ◌+◌, ◌*◌, ◌^◌, drop}
use Rattle.branch_fix.specs.Bounds.{sum_of}
use Rattle.branch_fix.proofs.bounds.sum.Given as goal

abbrev pub invariant-loop-cost : goal.invariant-loop-cost
invariant-loop-cost l = record {
  sum : l.sum + sum_of (drop l.cost-index l.costs) ≡ sum_of l.costs;
  few : l.sum ≤ 2 ^ 32 * l.cost-index;
}
