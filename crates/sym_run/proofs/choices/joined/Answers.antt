use Rattle.std.proofs.Common.{◌≡◌, ◌+◌, ◌^◌, ◌∙◌, ap, refl}
use Rattle.rec_bits.specs.declared.operator.Op2.TheVariants.{Mul}
use Rattle.tree_laws.specs.Classes.{width_in}
use Rattle.class_values.specs.Operators.{IsBin, IsZext}
use Rattle.class_values.specs.Values.{IsNumber}
use Rattle.class_values.proofs.Made.{if_found, moved_number, some_of}
use Rattle.sym_run.proofs.Choosing.{joined_made}
use Rattle.sym_run.proofs.choices.joined.Goals as goal

pub returns-clause-is : goal.returns-clause-is
returns-clause-is c =
    let t0 = c.args.table.now in
    let t1 = c.number.new.table in
    let t2 = c.zero_extended.new.table in
    let t3 = c.zero_extended-2.new.table in
    let t4 = c.binary.new.table in
    let facts = c.args.facts.now in
    let high = c.args.high in
    let low = c.args.low in
    let width = c.in-Some-joined_width.width in
    let factor = c.in-Some-2.factor in
    let upper = c.in-Some-3.upper in
    let lower = c.in-Some-4.lower in
    let raised = c.in-Some-5.raised in
    let bits : c.in-Some.bits ≡ width_in t0 low = c.in-Some.ensures.1 in
    let e : width ≡ width_in t0 high + width_in t0 low = c.in-Some-joined_width.ensures.sum ∙ ap (λ n. n + c.in-Some.bits) c.in-Some-width.ensures.1 ∙ ap (λ n. width_in t0 high + n) bits in
    let n : IsNumber t1 width (2 ^ width_in t0 low) factor = moved_number t1 width width c.power.result (2 ^ width_in t0 low) factor refl (c.power.ensures ∙ ap (λ k. 2 ^ k) bits)
    (some_of (IsNumber t1 width c.power.result) c.in_ok-factor.field-0 factor c.in-Some-2.is c.in_ok-factor.ensures.is) in
    let u = some_of (IsZext t1 t2 facts high width) c.in_ok-upper.field-0 upper c.in-Some-3.is c.in_ok-upper.ensures.is in
    let l = some_of (IsZext t2 t3 facts low width) c.in_ok-lower.field-0 lower c.in-Some-4.is c.in_ok-lower.ensures.is in
    let m = some_of (IsBin t3 t4 facts Mul upper factor) c.in_ok-raised.field-0 raised c.in-Some-5.is c.in_ok-raised.ensures.is in
    if_found c.binary-2.result _ _ (λ k s. joined_made t0 t1 t2 t3 t4 c.binary-2.new.table c.in_ok-factor.ensures.grows c.in_ok-upper.ensures.grows c.in_ok-lower.ensures.grows c.in_ok-raised.ensures.grows facts high low width factor upper lower raised k e n u l m s)
    c.binary-2.ensures.is
