use Rattle.std.proofs.Common.{◌<◌, subst}
use Rattle.tree_laws.specs.Classes.{width_in}
use Rattle.class_values.proofs.LowBits.{zext_shares}
use Rattle.class_values.proofs.low.narrower.Goals as goal

pub returns-then-are_same : goal.returns-then-are_same
returns-then-are_same c =
    let t = c.args.table.now in
    let inner = c.in_ok-of.of in
    let width = c.in_ok-width.ensures in
    let own = c.in_ok-own.ensures in
    let less = subst (λ w. c.args.hi < w) width.1 c.if-hi-width.true in
    let more = subst (λ v. width_in t inner < v) own.1 (subst (λ v. v < c.in_ok-own.own) width.1 c.if-width-own.true) in
    zext_shares t c.args.class inner c.in_ok-own.own c.args.hi c.in_ok-found.found own.0 width.0 less more (c.are_same.ensures c.if-are_same.true) c.in_ok-found.ensures.stands
