use Rattle.std.proofs.Common.{◌≡◌, map}
use Rattle.std.specs.List.{AllByRecursion}
use Rattle.net_model.specs.CheckedRules.{KeepsRules, Ordered}
use Rattle.net_model.specs.ModeRules.{bases_below}
use Rattle.net_check.proofs.modes.bases.Given as goal

-- what the netlist is in the modes so far, each checked
abbrev pub invariant-loop-value : goal.invariant-loop-value
invariant-loop-value l = record {
  are : map (λ (base : Ordered). base.netlist) l.bases ≡ bases_below l.netlist l.value;
  rules : AllByRecursion (λ (base : Ordered). KeepsRules base.netlist base.order) l.bases;
}
