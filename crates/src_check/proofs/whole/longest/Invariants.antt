use Rattle.std.proofs.Common.{◌≡◌, max, drop}
use Rattle.src_model.specs.Sizes.{longest}
use Rattle.src_check.proofs.whole.longest.Given as goal

abbrev pub invariant-loop-var : goal.invariant-loop-var
invariant-loop-var l = max l.len (longest (drop l.var-index l.vars)) ≡ longest l.vars
