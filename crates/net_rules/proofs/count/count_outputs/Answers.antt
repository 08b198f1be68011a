use Rattle.std.proofs.Common.{refl}
use Rattle.net_model.specs.Numbering.{count_outputs}
use Rattle.net_rules.proofs.Counts.{counted_last}
use Rattle.net_rules.proofs.count.count_outputs.Goals as goal

pub returns : goal.returns
returns c = counted_last (count_outputs) c.args.ports.now _ _ _ refl c.loop-port-test.false c.loop-port.invariant
