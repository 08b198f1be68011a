use Rattle.std.proofs.Common.{◌≡◌, ◌+◌, drop}
use Rattle.branch_fix.specs.Parts.{total}
use Rattle.branch_fix.proofs.rooms.total.Given as goal

abbrev pub invariant-loop-part : goal.invariant-loop-part
invariant-loop-part l = l.words + total (drop l.part-index l.parts) ≡ total l.parts
