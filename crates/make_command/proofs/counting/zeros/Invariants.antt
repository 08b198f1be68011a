use Rattle.std.proofs.Common.{◌≡◌, ◌++◌, drop}
use Rattle.src_model.specs.Meaning.{zeros}
use Rattle.make_command.proofs.counting.zeros.Given as goal

abbrev pub invariant-loop-var : goal.invariant-loop-var
invariant-loop-var l = l.cells ++ zeros (drop l.var-index l.vars) ≡ zeros l.vars
