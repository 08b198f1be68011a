use Rattle.std.proofs.Common.{length, take}
use Rattle.code_gen.specs.Inner.Planning.{AreViews}
use Rattle.code_gen.proofs.image.machines_of.Given as goal

abbrev pub invariant-loop-checked : goal.invariant-loop-checked
invariant-loop-checked l = AreViews (take (length l.yielded) l.bases) (take (length l.yielded) l.rest) l.machines.items
