use Rattle.std.proofs.Common.{◌+◌, arith, ltb-true}
use Rattle.mark_start.proofs.Places.{kept_by, view_none}
use Rattle.mark_start.proofs.begin.is_kept_in.Goals as goal

pub returns-then-first-a-clause-kept : goal.returns-then-first-a-clause-kept
returns-then-first-a-clause-kept c lt =
    let less = ltb-true c.args.a (c.from-first.result + c.from.result) lt in
    let first = c.from-first.ensures in
    let len = c.from.ensures in
    kept_by c.args.spot c.args.a c.if-spot.false (view_none c.args.spot.view c.is_none.result c.is_none.ensures c.if-first-a.true.0)
    (let le = c.if-first-a.true.1 in omega (arith, le, first)) (omega (arith, less, first, len))
