use Rattle.std.proofs.Common.{List, map, refl, arith}
use Rattle.std.proofs.lemmas.Grind.{common_steps}
use Rattle.net_model.specs.Written.{binding_of}
use Rattle.net_names.specs.Places.{lent}
use Rattle.net_rules.specs.Inner.Counts.{count_linked}
use Rattle.net_rules.proofs.Counts.{counted_last}
use Rattle.net_rules.proofs.count.count_linked.Goals as goal

pub returns : goal.returns
returns c = counted_last (λ (is : List _). count_linked (map binding_of c.args.links.now) (map lent is)) c.args.inputs.now _ _ _ refl c.loop-input-test.false c.loop-input.invariant

pub loop-input-preserved : goal.loop-input-preserved
loop-input-preserved c = grind (arith, common_steps)
