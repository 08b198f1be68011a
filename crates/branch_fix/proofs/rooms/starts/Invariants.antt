use Rattle.std.proofs.Common.{◌≡◌, ◌+◌, drop, map}
use Rattle.std.specs.List.{range_with_len}
use Rattle.branch_fix.specs.Parts.{address, total}
use Rattle.branch_fix.proofs.rooms.starts.Given as goal

abbrev pub invariant-loop-part : goal.invariant-loop-part
invariant-loop-part l = record {
  made : l.addresses ≡ map (address l.parts) (range_with_len 0 l.part-index);
  here : l.address ≡ address l.parts l.part-index;
  sum : l.address + total (drop l.part-index l.parts) ≡ total l.parts;
}
