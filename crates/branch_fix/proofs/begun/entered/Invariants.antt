use Rattle.std.proofs.Common.{◌≡◌, length, replicate, drop, false}
use Rattle.branch_fix.proofs.Entries.{marked}
use Rattle.branch_fix.proofs.begun.entered.Given as goal

abbrev pub invariant-loop-item : goal.invariant-loop-item
invariant-loop-item l = l.entered.items ≡ replicate l._item-index false

abbrev pub invariant-loop-place : goal.invariant-loop-place
invariant-loop-place l = marked (drop l.place-index l.flow) l.entered.items ≡ marked l.flow (replicate (length l.flow) false)
