use Rattle.std.proofs.Common.{sym, subst}
use Rattle.class_values.specs.Operators.{IsOffset}
use Rattle.sym_run.proofs.Passing.{offsets_apart}
use Rattle.sym_run.proofs.behind.are_at_others.Goals as goal

pub returns : goal.returns
returns c e =
    let x = c.in-Some.x in
    let y = c.in-Some-offset_of.y in
    let t = c.args.table.now in
    let facts = c.args.facts.now in
    offsets_apart t facts c.args.elements.now c.args.a c.args.b x.width x.base y.base x.number y.number c.in-Some.ensures
    (subst (λ w. IsOffset t facts c.args.b w y.base y.number) (sym (c.are_of_others.ensures.width c.if-not-are_of_others.false)) c.in-Some-offset_of.ensures)
    (c.are_of_others.ensures.number c.if-not-are_of_others.false) (c.are_same.ensures e)
