use Rattle.std.proofs.Common.{◌<◌, sym, ◌∙◌, arith}
use Rattle.sym_run.specs.declared.known.Known.{Known}
use Rattle.sym_run.specs.declared.walk.Arrival.{Arrival}
use Rattle.sym_run.specs.Walks.{Turns}
use Rattle.class_values.proofs.Keeping.{grows_on}
use Rattle.sym_run.proofs.Walking.{answer_of, arrived, if_arrives, walked_on}
use Rattle.sym_run.proofs.walk.Image.+walk.Goals as goal

pub returns-then-is_marked-clause-arrives : goal.returns-then-is_marked-clause-arrives
returns-then-is_marked-clause-arrives t c = arrived c.args.self.now c.args.table.now c.args.known c.in-Some.address c.args.clocks c.in-Some.ensures (sym c.is_marked.ensures ∙ c.if-is_marked.true)

pub returns-clause-arrives : goal.returns-clause-arrives
returns-clause-arrives t c =
    let t0 = c.args.table.now in
    let t1 = c.turn.new.table in
    let t2 = c.walk.new.table in
    let image = c.args.self.now in
    let known = c.args.known in
    let next = c.in-Some-2.next in
    let turns : Turns t0 t1 image known next = answer_of (λ (n : Known). Turns t0 t1 image known n) c.in_ok-next.field-0 next c.in-Some-2.is c.in_ok-next.ensures.turns in
    let more : 0 < c.args.clocks = omega (arith, c.if-clocks-eq0.false) in
    if_arrives c.walk.result _ _ (λ (arrival : Arrival) a. walked_on image t0 t1 t2 c.turn.ensures.grows known next turns c.in-Some.address c.args.clocks arrival c.in-Some.ensures (sym c.is_marked.ensures ∙ c.if-is_marked.false) more a) c.walk.ensures.arrives

pub returns-clause-grows : goal.returns-clause-grows
returns-clause-grows t c = grows_on c.args.table.now c.turn.new.table c.walk.new.table c.turn.ensures.grows c.walk.ensures.grows
