use Rattle.std.proofs.Common.{map, refl, arith}
use Rattle.std.proofs.lemmas.Grind.{common_steps}
use Rattle.net_model.specs.Numbering.{count_equations}
use Rattle.net_model.specs.Written.{binding_of}
use Rattle.net_rules.proofs.Counts.{counted_last}
use Rattle.net_rules.proofs.count.count_equations.Goals as goal

pub returns : goal.returns
returns c = counted_last (count_equations (map binding_of c.args.equations.now)) c.args.ports.now _ _ _ refl c.loop-port-test.false c.loop-port.invariant

pub loop-port-preserved : goal.loop-port-preserved
loop-port-preserved c = grind (arith, common_steps)
