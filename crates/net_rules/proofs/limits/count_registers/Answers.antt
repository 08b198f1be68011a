use Rattle.std.proofs.Common.{List, map, refl}
use Rattle.net_model.specs.LimitRules.{count_registers}
use Rattle.net_model.specs.Written.{model_of_unit}
use Rattle.net_rules.proofs.Counts.{counted_last}
use Rattle.net_rules.proofs.limits.count_registers.Goals as goal

pub returns : goal.returns
returns c = counted_last (λ (us : List _). count_registers (map model_of_unit us)) c.args.units.now _ _ _ refl c.loop-unit-test.false c.loop-unit.invariant
