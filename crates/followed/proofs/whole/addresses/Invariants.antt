use Rattle.std.proofs.Common.{◌≡◌, ◌++◌, drop, map}
use Rattle.code_model.specs.declared.image.Mark.{Mark}
use Rattle.followed.proofs.whole.addresses.Given as goal

abbrev pub invariant-loop-mark : goal.invariant-loop-mark
invariant-loop-mark l = l.all ++ map (λ (mark : Mark). mark.address) (drop l.mark-index l.marks) ≡ map (λ (mark : Mark). mark.address) l.marks
