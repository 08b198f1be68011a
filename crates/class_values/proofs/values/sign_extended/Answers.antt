use Rattle.std.proofs.Common.{ℕ, ◌∙◌, ap, sym, refl}
use Rattle.rec_bits.specs.Operators.{sext_of}
use Rattle.tree_laws.specs.Classes.{width_in}
use Rattle.class_values.proofs.Made.{folded, if_found, moved_number, sext_made}
use Rattle.class_values.proofs.values.sign_extended.Goals as goal

pub returns-then-width-le64-clause-is : goal.returns-then-width-le64-clause-is
returns-then-width-le64-clause-is c =
    let s = c.in-Some.ensures in
    let t = c.args.table.now in
    let w : ℕ = width_in t c.args.a in
    if_found c.number.result _ _
    (λ k is. folded t c.number.new.table c.number.ensures.grows c.args.facts.now c.args.a c.args.width c.in-Some.x.number k (λ x. sext_of x w c.args.width) s.number
    (moved_number c.number.new.table c.args.width c.args.width c.sext.result (sext_of c.in-Some.x.number w c.args.width) k refl (c.sext.ensures ∙ ap (λ v. sext_of c.in-Some.x.number v c.args.width) (sym s.width)) is))
    c.number.ensures.is

pub returns-in-None-clause-is : goal.returns-in-None-clause-is
returns-in-None-clause-is c = if_found c.class_of.result _ _ (sext_made c.args.table.now c.class_of.new.table c.class_of.ensures.grows c.args.facts.now c.args.a c.args.width) c.class_of.ensures.stands
