use Rattle.std.proofs.Common.{List, subst, sym}
use Rattle.sym_run.specs.declared.known.Put.{Put}
use Rattle.sym_run.specs.Inner.Passed.{ArePassed, IsPassed}
use Rattle.class_values.proofs.Made.{if_found, some_of}
use Rattle.sym_run.proofs.Passing.{more_passed}
use Rattle.sym_run.proofs.behind.+all_passed.Goals as goal

pub returns-clause-is : goal.returns-clause-is
returns-clause-is t c =
    let t0 = c.args.table.now in
    let t1 = c.passed.new.table in
    let t2 = c.all_passed.new.table in
    let facts = c.args.facts.now in
    let elements = c.args.elements.now in
    let at = c.args.spot.at in
    let width = c.args.spot.width in
    let next = c.in-Some-2.next in
    let first = some_of (IsPassed t0 t1 facts elements c.in-Some.put.now at width c.args.old) c.in_ok-next.field-0 next c.in-Some-2.is c.in_ok-next.ensures.is in
    if_found c.all_passed.result _ _ (λ k s. subst (λ (ps : List Put). ArePassed t0 t2 facts elements ps at width c.args.old k) (sym c.in-Some.ensures.cases.0)
    (more_passed facts elements at width t0 t1 t2 c.in_ok-next.ensures.grows c.in-Some.put.now c.in-Some.rest.now c.args.old next k first s)) c.all_passed.ensures.is
