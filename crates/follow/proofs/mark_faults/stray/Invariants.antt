use Rattle.std.proofs.Common.{ℕ, ◌≡◌, ◌<◌, Some, slice_get}
use Rattle.code_model.specs.declared.image.Mark.{Mark}
use Rattle.follow.specs.RightByViews.{IsTestOf}
use Rattle.follow.proofs.mark_faults.stray.Given as goal

abbrev pub invariant-loop-i : goal.invariant-loop-i
invariant-loop-i l = (k : ℕ) → k < l.i → (mark : Mark) (tree : ℕ) → slice_get l.marks k ≡ Some mark → mark.label ≡ Some tree → IsTestOf l.flow tree
