use Rattle.std.proofs.Common.{List, map, refl, arith}
use Rattle.std.proofs.lemmas.Grind.{common_steps}
use Rattle.net_model.specs.Numbering.{count_drivers}
use Rattle.net_model.specs.Written.{driver_of}
use Rattle.net_rules.proofs.Counts.{counted_last}
use Rattle.net_rules.proofs.count.count_drivers.Goals as goal

pub returns : goal.returns
returns c = counted_last (λ (ds : List _). count_drivers (map driver_of ds)) c.args.drivers.now _ _ _ refl c.loop-driver-test.false c.loop-driver.invariant

pub loop-driver-preserved : goal.loop-driver-preserved
loop-driver-preserved c = grind (arith, common_steps)
