use Rattle.std.proofs.Common.{◌-◌, length}
use Rattle.form_model.specs.Forms.{models_of_forms}
use Rattle.branch_fix.specs.Rounds.{IsRound, long_tests}
use Rattle.branch_fix.proofs.widen.settled.Given as goal

abbrev pub invariant-rounds : goal.invariant-rounds
invariant-rounds l = IsRound (models_of_forms l.forms) l.fn.first l.parts

abbrev pub decreases-rounds : goal.decreases-rounds
decreases-rounds l = length l.parts - long_tests l.parts
