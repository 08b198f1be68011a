use Rattle.std.proofs.Common.{ℕ, ◌∙◌, ap, sym}
use Rattle.rec_bits.specs.Operators.{apply2_of, result_width}
use Rattle.tree_laws.specs.Classes.{width_in}
use Rattle.class_values.proofs.Made.{folded_two, if_found, moved_number}
use Rattle.class_values.proofs.values.binary.Goals as goal

pub returns-then-y-x-clause-is : goal.returns-then-y-x-clause-is
returns-then-y-x-clause-is c =
    let s = c.in-Some.ensures in
    let r = c.in-Some-sized.ensures in
    let t = c.args.table.now in
    let w : ℕ = width_in t c.args.a in
    if_found c.number.result _ _
    (λ k is. folded_two t c.number.new.table c.number.ensures.grows c.args.facts.now c.args.a c.args.b (result_width c.args.op w) c.in-Some.x.number c.in-Some-sized.y.number k (apply2_of c.args.op w) s.number r.number
    (moved_number c.number.new.table c.result_width.result (result_width c.args.op w) c.apply2.result (apply2_of c.args.op w c.in-Some.x.number c.in-Some-sized.y.number) k
    (c.result_width.ensures ∙ ap (result_width c.args.op) (sym s.width)) (c.apply2.ensures ∙ ap (λ v. apply2_of c.args.op v c.in-Some.x.number c.in-Some-sized.y.number) (sym s.width)) is))
    c.number.ensures.is
