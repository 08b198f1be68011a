use Rattle.std.proofs.Common.{ℕ, ◌≡◌, ◌<◌, Some, slice_get}
use Rattle.follow.specs.Inner.Marked.{HasLabel, tested_tree}
use Rattle.follow.proofs.mark_faults.unmarked.Given as goal

abbrev pub invariant-loop-i : goal.invariant-loop-i
invariant-loop-i l = (k : ℕ) → k < l.i → (tree : ℕ) → tested_tree (slice_get l.flow k) ≡ Some tree → HasLabel l.marks (Some tree)
