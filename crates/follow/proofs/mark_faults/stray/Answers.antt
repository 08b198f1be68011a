use Rattle.std.proofs.Common.{arith}
use Rattle.std.proofs.lemmas.Option.{slice_get_within}
use Rattle.follow.proofs.mark_faults.stray.Goals as goal

pub returns : goal.returns
returns c = λ k mark tree e l.
    let inside = slice_get_within c.args.marks.now k mark e in
    let ended = c.loop-i-test.false in
    let end = c.loop-i.auto.i-end in
    c.loop-i.invariant k (omega (arith, inside, ended, end)) mark tree e l
