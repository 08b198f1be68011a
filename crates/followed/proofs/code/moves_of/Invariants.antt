use Rattle.std.proofs.Common.{◌≡◌, ◌++◌, drop, map}
use Rattle.followed.specs.Inner.Coded.{move_of}
use Rattle.followed.proofs.code.moves_of.Given as goal

abbrev pub invariant-loop-one : goal.invariant-loop-one
invariant-loop-one l = l.moves ++ map move_of (drop l.one-index l.found) ≡ map move_of l.found
