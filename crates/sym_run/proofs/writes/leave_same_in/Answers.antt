use Rattle.sym_run.specs.Inner.Passed.{IsLeftAt}
use Rattle.class_values.proofs.Made.{some_of}
use Rattle.sym_run.proofs.SamePuts.{same_in}
use Rattle.sym_run.proofs.writes.leave_same_in.Goals as goal

pub returns-clause-same : goal.returns-clause-same
returns-clause-same c e =
    let t0 = c.args.table.now in
    let t1 = c.element.new.table in
    let t2 = c.element-2.new.table in
    let facts = c.args.facts.now in
    let near = c.args.near.now in
    let far = c.args.far.now in
    let at = c.args.put.address in
    let width = c.in-Some.width in
    let a = c.in-Some-first.a in
    let b = c.in-Some-second.b in
    same_in facts near far t0 t1 t2 at width a b c.in_ok-first.ensures.grows c.in_ok-second.ensures.grows
    (some_of (IsLeftAt t0 t1 facts near at width) c.in_ok-first.first a c.in-Some-first.is c.in_ok-first.ensures.is)
    (some_of (IsLeftAt t1 t2 facts far at width) c.in_ok-second.second b c.in-Some-second.is c.in_ok-second.ensures.is) (c.are_same.ensures e)
