use Rattle.std.proofs.Common.{ℕ, refl, sym}
use Rattle.tree_laws.specs.Classes.{width_in}
use Rattle.class_values.proofs.Made.{folded, if_found, moved_number}
use Rattle.class_values.proofs.values.settled.Goals as goal

pub returns-in-Some-clause-is : goal.returns-in-Some-clause-is
returns-in-Some-clause-is c =
    let s = c.in-Some.ensures in
    let t0 = c.args.table.now in
    let t1 = c.number.new.table in
    let w : ℕ = width_in t0 c.args.a in
    let n = c.in-Some.x.number in
    if_found c.number.result _ _
    (λ k is. folded t0 t1 c.number.ensures.grows c.args.facts.now c.args.a w n k (λ x. x) s.number (moved_number t1 c.in-Some.x.width w n n k (sym s.width) refl is))
    c.number.ensures.is
