use Rattle.std.proofs.Common.{◌+◌, arith, subst, sym}
use Rattle.mark_start.specs.Marked.{SpotsWithin}
use Rattle.mark_start.proofs.Starting.{within_more}
use Rattle.mark_start.proofs.start.+room.Goals as goal

pub returns-then-later-end-clause-all : goal.returns-then-later-end-clause-all
returns-then-later-end-clause-all t c =
    let end = c.from-2.result + c.from-3.result in
    let less = c.if-later-end.true in
    let a = c.from-2.ensures in
    let b = c.from-3.ensures in
    subst (SpotsWithin end) (sym c.in-Some.ensures.cases.0) (omega (arith, a, b), within_more c.in-Some.rest.now c.room-later.result end (omega (arith, less)) c.room-later.ensures.all)

pub returns-else-later-end-clause-least : goal.returns-else-later-end-clause-least
returns-else-later-end-clause-least t c n le w = c.room-later.ensures.least n le (subst (SpotsWithin n) c.in-Some.ensures.cases.0 w).1
