use Rattle.std.proofs.Common.{subst, sym}
use Rattle.segment.specs.declared.way.Way.{Way}
use Rattle.followed.specs.Inner.Led.{IsLedOff}
use Rattle.followed.proofs.front.Front.first_way.Goals as goal

pub returns-in-Ok-clause-is : goal.returns-in-Ok-clause-is
returns-in-Ok-clause-is c = subst (λ (w : Way). IsLedOff c.args.self.now c.args.from.now w) (sym c.in-Ok.ensures.0) c.in_ok-way_off.ensures
