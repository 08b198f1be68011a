use Rattle.class_values.proofs.Numbering.{equation_told, told_as}
use Rattle.class_values.proofs.numbers.equated.Goals as goal

pub returns-then-is_listed : goal.returns-then-is_listed
returns-then-is_listed c =
    let t = c.args.table.now in
    let n = c.in_ok-number.number in
    let same = c.are_same.ensures c.if-not-are_same.false in
    told_as t c.args.fact c.args.a c.args.class n same
    (equation_told t c.args.fact c.args.a c.args.b n same.second c.if-fact-ne1.false c.in_ok-number.ensures (c.is_listed.ensures c.if-is_listed.true))
