use Rattle.std.proofs.Common.{◌≡◌, ◌++◌, take}
use Rattle.emit_seq.proofs.cuts.put_all.Given as goal

abbrev pub invariant-loop-step : goal.invariant-loop-step
invariant-loop-step l = l.out ≡ l.initial.out ++ take l.step-index l.steps
