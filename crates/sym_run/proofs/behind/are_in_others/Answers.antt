use Rattle.sym_run.proofs.Passing.{ranges_apart}
use Rattle.sym_run.proofs.behind.are_in_others.Goals as goal

pub returns : goal.returns
returns c e =
    let x = c.in-Some.x in
    let y = c.in-Some-range_of.y in
    ranges_apart c.args.table.now c.args.facts.now c.args.elements.now c.args.a c.args.b x.first x.end y.first y.end c.in-Some.ensures c.in-Some-range_of.ensures (c.are_disjoint.ensures e)
