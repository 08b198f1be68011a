use Rattle.mode_set.proofs.Putting.{NonePuts}
use Rattle.mode_set.proofs.puts.can_put.Given as goal

-- none of the forms before the one that comes next puts the number
abbrev pub invariant-loop-form : goal.invariant-loop-form
invariant-loop-form l = NonePuts l.mode l.value l.forms l.form-index
