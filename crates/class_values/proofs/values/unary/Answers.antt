use Rattle.std.proofs.Common.{ℕ, ◌∙◌, ap, sym}
use Rattle.rec_bits.specs.Operators.{apply1_of}
use Rattle.tree_laws.specs.Classes.{width_in}
use Rattle.class_values.proofs.Made.{folded, if_found, moved_number}
use Rattle.class_values.proofs.Summing.{un_of}
use Rattle.class_values.proofs.values.unary.Goals as goal

pub returns-in-Some-clause-is : goal.returns-in-Some-clause-is
returns-in-Some-clause-is c =
    let s = c.in-Some.ensures in
    let t = c.args.table.now in
    let w : ℕ = width_in t c.args.a in
    if_found c.number.result _ _
    (λ k is. folded t c.number.new.table c.number.ensures.grows c.args.facts.now c.args.a w c.in-Some.x.number k (apply1_of c.args.op w) s.number
    (moved_number c.number.new.table c.in-Some.x.width w c.apply1.result (apply1_of c.args.op w c.in-Some.x.number) k (sym s.width) (c.apply1.ensures ∙ ap (λ v. apply1_of c.args.op v c.in-Some.x.number) (sym s.width)) is))
    c.number.ensures.is

pub returns-in-None-clause-is : goal.returns-in-None-clause-is
returns-in-None-clause-is c =
    if_found c.unary_in_form.result _ _ (un_of c.args.table.now c.unary_in_form.new.table c.unary_in_form.ensures.grows c.args.facts.now c.args.op c.args.a) c.unary_in_form.ensures.is
