use Rattle.std.proofs.Common.{true}
use Rattle.net_model.specs.NameRules.{unknown_binding}
use Rattle.net_model.specs.TextNames.{in_module}
use Rattle.net_model.specs.Written.{binding_of}
use Rattle.net_rules.proofs.Scans.{gathered_next}
use Rattle.net_rules.proofs.unknowns.unknown_in_equations.Goals as goal

pub loop-equation-preserved : goal.loop-equation-preserved
loop-equation-preserved c =
    rw (c.lesser_offset-found.ensures, c.unknown_equation.ensures)
    (gathered_next (unknown_binding true c.args.ports.now (in_module c.args.ports.now)) binding_of c.args.equations.now c.loop-equation.equation-index c.equation-item.result c.loop-equation.found _ c.loop-equation-test.true c.equation-item.is c.loop-equation.invariant)
