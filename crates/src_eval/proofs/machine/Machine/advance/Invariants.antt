use Rattle.src_eval.specs.Inner.Steps.{MachineFits, SameAhead, SameSteps}
use Rattle.src_eval.proofs.FlowLemmas.{need}
use Rattle.src_eval.proofs.machine.Machine.advance.Given as goal

abbrev pub invariant-loop-step : goal.invariant-loop-step
invariant-loop-step l = record {
  kept : MachineFits l.self;
  same : SameSteps l.fn.self l.self;
  ahead : SameAhead l.fn.self l.self;
}

abbrev pub decreases-loop-step : goal.decreases-loop-step
decreases-loop-step l = need l.self.steps l.self.at
