use Rattle.sym_run.specs.Moves.{AreUnknown}
use Rattle.sym_run.proofs.moves.unknown.Given as goal

abbrev pub invariant-loop-k : goal.invariant-loop-k
invariant-loop-k l = AreUnknown l._k l.entries
