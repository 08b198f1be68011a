use Rattle.std.proofs.Common.{take}
use Rattle.isa_extract.specs.Inner.Modes.{AreControlledIn}
use Rattle.isa_extract.proofs.netlists.all_controlled.Given as goal

-- the control bits of the modes so far
abbrev pub invariant-loop-base : goal.invariant-loop-base
invariant-loop-base l = AreControlledIn (take l.base-index l.base-items) l.list.items
