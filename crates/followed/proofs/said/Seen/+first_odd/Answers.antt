use Rattle.std.proofs.Common.{◌+◌, arith, rules, subst, sym}
use Rattle.followed.specs.Inner.Ascending.{AscendFrom}
use Rattle.followed.proofs.Ascending.{ascend_lower, later_on}
use Rattle.followed.proofs.said.Seen.+first_odd.Goals as goal

pub first_odd-requires : goal.first_odd-requires
first_odd-requires t c =
    let next = c.later_from-later.ensures in
    let low = next.low in
    let rest = c.in_ok-hint.rest.now in
    let (here, up) = subst (AscendFrom c.args.later.low) c.in_ok-hint.ensures.cases.0 c.requires.ascend in (
      search rules,
      (
        later_on c.args.self.now.viewed.now c.args.later c.later_from-later.result c.in_ok-hint.hint.now.address low here next.come next.marks next.views c.requires.later,
        subst (λ from. AscendFrom from rest) (sym low) (ascend_lower c.in_ok-hint.hint.now.address (c.in_ok-hint.hint.now.address + 1) rest (omega arith) up),
      ),
    )
