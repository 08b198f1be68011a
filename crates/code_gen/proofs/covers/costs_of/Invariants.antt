use Rattle.std.proofs.Common.{◌≡◌, take}
use Rattle.code_gen.specs.Inner.Planning.{told_costs}
use Rattle.code_gen.proofs.covers.costs_of.Given as goal

abbrev pub invariant-loop-plan : goal.invariant-loop-plan
invariant-loop-plan l = l.costs ≡ told_costs (take l.plan-index l.plans)
