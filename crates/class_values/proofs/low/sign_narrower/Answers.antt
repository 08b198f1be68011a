use Rattle.std.proofs.Common.{◌<◌, subst, sym}
use Rattle.class_values.proofs.LowBits.{sext_shares}
use Rattle.class_values.proofs.low.sign_narrower.Goals as goal

pub returns-then-are_same : goal.returns-then-are_same
returns-then-are_same c =
    let width = c.in_ok-width.ensures in
    let own = c.in_ok-own.ensures in
    let less = subst (λ w. c.args.hi < w) width.1 c.if-hi-width.true in
    let more = subst (λ v. v < c.in_ok-own.own) width.1 c.if-width-own.true in
    sext_shares c.args.table.now c.args.class c.in_ok-of.of c.in_ok-own.own c.args.hi c.in_ok-found.found own.0 width.0 (sym own.1) less more (c.are_same.ensures c.if-are_same.true) c.in_ok-found.ensures.stands
