use Rattle.std.proofs.Common.{subst, sym}
use Rattle.segment.specs.declared.way.Way.{Way}
use Rattle.followed.specs.Inner.Led.{IsLed}
use Rattle.followed.proofs.front.Front.known_way.Goals as goal

pub returns-in-Ok-clause-is : goal.returns-in-Ok-clause-is
returns-in-Ok-clause-is c = subst (λ (w : Way). IsLed c.args.self.now c.args.from.now c.args.test c.args.answer c.args.at w) (sym c.in-Ok.ensures.0) c.in_ok-way.ensures
