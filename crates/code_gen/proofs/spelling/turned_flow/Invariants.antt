use Rattle.std.proofs.Common.{◌≡◌, take}
use Rattle.src_trees.specs.Turned.{turned_flow as exchanged}
use Rattle.code_gen.specs.Inner.Spelling.{turns_of}
use Rattle.code_gen.proofs.spelling.turned_flow.Given as goal

abbrev pub invariant-loop-place : goal.invariant-loop-place
invariant-loop-place l = l.places ≡ exchanged (turns_of l.turned) (take l.place-index l.flow)
