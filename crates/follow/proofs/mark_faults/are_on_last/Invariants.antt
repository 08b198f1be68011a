use Rattle.std.proofs.Common.{ℕ, ◌≡◌, ◌+◌, ◌<◌, None, Some, slice_get}
use Rattle.code_model.specs.declared.image.Mark.{Mark}
use Rattle.follow.proofs.mark_faults.are_on_last.Given as goal

abbrev pub invariant-loop-i : goal.invariant-loop-i
invariant-loop-i l = (k : ℕ) → k < l.i → (mark : Mark) → slice_get l.marks k ≡ Some mark → mark.label ≡ None → mark.address + 1 ≡ l.words
