use Rattle.std.proofs.Common.{rules}
use Rattle.followed.proofs.Ascending.{come_rest}
use Rattle.followed.proofs.later.+views_from.Goals as goal

pub views_from-requires : goal.views_from-requires
views_from-requires t c = (search rules, come_rest c.in-Some.view.now c.in-Some.rest.now c.args.views.now c.in-Some.ensures.cases.0 c.requires)
