use Rattle.std.proofs.Common.{subst}
use Rattle.bit_bdd.specs.Diagrams.{Diagrams}
use Rattle.bit_bdd.specs.Shape.{IsReducedBook}
use Rattle.bit_bdd.proofs.Memo.{settled_right}
use Rattle.bit_bdd.proofs.Book.settled.Goals as goal

pub returns-then-off-eq0 : goal.returns-then-off-eq0
returns-then-off-eq0 c =
    settled_right c.args.self.now (subst (λ (d : Diagrams). IsReducedBook d.bits d.nodes) c.self.view_is c.self.invariant.reduced) c.args.test c.args.on c.args.off c.requires c.if-on-eq1.true c.if-off-eq0.true
