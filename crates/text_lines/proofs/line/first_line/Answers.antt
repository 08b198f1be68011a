use Rattle.std.proofs.Common.{◌∷◌, length, arith, ap, sym, length-append}
use Rattle.text_lines.proofs.Parts.{first_with, first_without, parts_are}
use Rattle.text_lines.proofs.line.first_line.Goals as goal

pub split_at-requires : goal.split_at-requires
split_at-requires c =
    let e = parts_are 10 c.args.text.now c.in-Some.before.now c.in-Some.field-0-1.now (sym (rw c.in-Some.is at c.cut.ensures)) in
    omega (arith, ap length e, length-append c.in-Some.before.now (10 ∷ c.in-Some.field-0-1.now))

pub returns-in-Some-clause-some : goal.returns-in-Some-clause-some
returns-in-Some-clause-some c =
    let e = first_with c.args.text.now c.in-Some.before.now c.in-Some.field-0-1.now (sym (rw c.in-Some.is at c.cut.ensures)) in
    rw (c.split_at.ensures.front, c.split_at.ensures.back) e

pub returns-in-None-clause-some : goal.returns-in-None-clause-some
returns-in-None-clause-some c = first_without c.args.text.now (sym (rw c.in-None.is at c.cut.ensures)) (grind arith)
