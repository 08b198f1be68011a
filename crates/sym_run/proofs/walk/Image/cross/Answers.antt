use Rattle.sym_run.specs.declared.known.Known.{Known}
use Rattle.sym_run.specs.declared.walk.Arrival.{Arrival}
use Rattle.sym_run.specs.Walks.{Turns}
use Rattle.sym_run.proofs.Walking.{answer_of, crossed, if_arrives}
use Rattle.sym_run.proofs.walk.Image.cross.Goals as goal

pub returns-clause-crosses : goal.returns-clause-crosses
returns-clause-crosses c =
    let t0 = c.args.table.now in
    let t1 = c.turn.new.table in
    let t2 = c.walk.new.table in
    let image = c.args.self.now in
    let known = c.args.known.now in
    let next = c.in-Some-2.next in
    let turns : Turns t0 t1 image known next = answer_of (λ (n : Known). Turns t0 t1 image known n) c.in_ok-next.field-0 next c.in-Some-2.is c.in_ok-next.ensures.turns in
    if_arrives c.walk.result _ _ (λ (arrival : Arrival) a. crossed image t0 t1 t2 c.turn.ensures.grows known next turns c.args.clocks arrival a) c.walk.ensures.arrives
