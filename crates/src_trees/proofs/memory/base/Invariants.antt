use Rattle.std.proofs.Common.{◌≡◌, drop}
use Rattle.src_trees.specs.Lowered.{base_of}
use Rattle.src_trees.proofs.memory.base.Given as goal

abbrev pub invariant-loop-place : goal.invariant-loop-place
invariant-loop-place l = base_of (drop l.place-index l.places) l.name ≡ base_of l.places l.name
