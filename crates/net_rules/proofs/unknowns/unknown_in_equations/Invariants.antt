use Rattle.std.proofs.Common.{◌≡◌, map, drop, true}
use Rattle.rec_bits.specs.Faults.{lesser_offset, least, gather}
use Rattle.net_model.specs.NameRules.{unknown_binding}
use Rattle.net_model.specs.TextNames.{in_module}
use Rattle.net_model.specs.Written.{binding_of}
use Rattle.net_rules.proofs.unknowns.unknown_in_equations.Given as goal

abbrev pub invariant-loop-equation : goal.invariant-loop-equation
invariant-loop-equation l =
    lesser_offset l.found (least (gather (unknown_binding true l.ports (in_module l.ports)) (map binding_of (drop l.equation-index l.equations)))) ≡ least (gather (unknown_binding true l.ports (in_module l.ports)) (map binding_of l.equations))
