use Rattle.std.proofs.Common.{◌∙◌, refl, sym}
use Rattle.class_values.proofs.Numbering.{denial_told}
use Rattle.class_values.proofs.numbers.denied.Goals as goal

pub returns-then-is_listed : goal.returns-then-is_listed
returns-then-is_listed c =
    let width = c.in_ok-width.ensures in
    denial_told c.args.table.now c.args.fact c.args.a _ width.0 (sym width.1 ∙ c.if-width-ne1.false) refl (c.is_listed.ensures c.if-is_listed.true)
