use Rattle.std.proofs.Common.{length}
use Rattle.state_text.proofs.Progress.{Progress}
use Rattle.state_text.proofs.reading.read_state.Given as goal

abbrev pub invariant-loop-line : goal.invariant-loop-line
invariant-loop-line l = Progress l.checked.netlist l.still l.bytes l.rest l.state

abbrev pub decreases-loop-line : goal.decreases-loop-line
decreases-loop-line l = length l.rest
