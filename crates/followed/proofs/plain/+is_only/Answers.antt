use Rattle.followed.proofs.Ascending.{only_apart}
use Rattle.followed.proofs.plain.+is_only.Goals as goal

pub returns-then-other-view : goal.returns-then-other-view
returns-then-other-view t c e come =
    only_apart c.args.view.now c.in-Some.other.now c.in-Some.rest.now c.args.views.now c.in-Some.ensures.cases.0 c.if-other-view.true come
