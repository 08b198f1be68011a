use Rattle.std.proofs.Common.{◌≡◌, take}
use Rattle.form_model.specs.Live.{singles}
use Rattle.compaction.proofs.copies.singles.Given as goal

abbrev pub invariant-loop-step : goal.invariant-loop-step
invariant-loop-step l = l.groups.items ≡ singles (take l.step-index l.steps)
