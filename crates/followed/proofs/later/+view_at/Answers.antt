use Rattle.std.proofs.Common.{arith, rules, sym}
use Rattle.followed.proofs.Ascending.{come_rest, none_here}
use Rattle.followed.proofs.later.+view_at.Goals as goal

pub returns-then-address-view : goal.returns-then-address-view
returns-then-address-view t c =
    sym (none_here c.in_ok-view.view.now c.in_ok-view.rest.now c.args.views.now c.args.address c.args.name.now c.in_ok-view.ensures.cases.0 (omega (arith, c.if-address-view.true)) c.requires)

pub view_at-requires : goal.view_at-requires
view_at-requires t c = (search rules, come_rest c.in_ok-view.view.now c.in_ok-view.rest.now c.args.views.now c.in_ok-view.ensures.cases.0 c.requires)
