use Rattle.std.proofs.Common.{◌≡◌, ◌+◌, ◌++◌, drop}
use Rattle.branch_fix.specs.Parts.{total, marks_from}
use Rattle.branch_fix.proofs.marks.marks.Given as goal

abbrev pub invariant-loop-part : goal.invariant-loop-part
invariant-loop-part l = record {
  made : l.marks ++ marks_from l.address (drop l.part-index l.parts) ≡ marks_from 0 l.parts;
  sum : l.address + total (drop l.part-index l.parts) ≡ total l.parts;
}
