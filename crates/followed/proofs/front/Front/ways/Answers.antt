use Rattle.std.proofs.Common.{subst, sym, List}
use Rattle.sym_expr.specs.declared.pool.Node.{Node}
use Rattle.followed.specs.Inner.Ascending.{AscendFrom}
use Rattle.followed.specs.Inner.Hinted.{AreHere}
use Rattle.followed.proofs.Ascending.{are_new, none_of}
use Rattle.followed.proofs.front.Front.ways.Goals as goal

pub first_odd-requires-clause-ascend : goal.first_odd-requires-clause-ascend
first_odd-requires-clause-ascend c =
    subst (λ low. AscendFrom low c.args.self.now.hints.now) (sym c.all_of.ensures.low) (none_of _ c.first_low.result c.in_default.is c.first_low.ensures)

pub ways_from-requires-clause-new : goal.ways_from-requires-clause-new
ways_from-requires-clause-new c = are_new 0 c.args.self.now.hints.now (none_of _ c.first_low.result c.in_default.is c.first_low.ensures)

pub ways_from-requires-clause-here : goal.ways_from-requires-clause-here
ways_from-requires-clause-here c =
    subst (λ (pool : List Node). AreHere c.args.seen.now.viewed.now c.args.seen.now.vars.now pool c.args.self.now.hints.now) c.requires.pool
    (none_of _ c.first_odd.result c.in_default-first_odd.is c.first_odd.ensures)
