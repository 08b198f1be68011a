use Rattle.check_command.proofs.ViewLemmas.{IsLastTill}
use Rattle.check_command.proofs.views.is_last_at.Given as goal

abbrev pub invariant-loop-later : goal.invariant-loop-later
invariant-loop-later l = IsLastTill l.views l.at l.view l.later
