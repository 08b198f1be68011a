use Rattle.std.proofs.Common.{◌≡◌, ◌++◌, drop}
use Rattle.net_check.proofs.fixing.copy_codes.Given as goal

abbrev pub invariant-loop-code : goal.invariant-loop-code
invariant-loop-code l = l.made ++ drop l.code-index l.codes ≡ l.codes
