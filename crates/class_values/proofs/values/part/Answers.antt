use Rattle.std.proofs.Common.{subst, sym}
use Rattle.class_values.specs.Operators.{IsSlice}
use Rattle.class_values.proofs.Made.{if_found, slice_made}
use Rattle.class_values.proofs.LowBits.{slice_of_low_bits}
use Rattle.class_values.proofs.values.part.Goals as goal

pub returns-then-lo-eq0-clause-is : goal.returns-then-lo-eq0-clause-is
returns-then-lo-eq0-clause-is c facts =
    let t0 = c.args.table.now in
    let t1 = c.low_bits.new.table in
    if_found c.low_bits.result _ _
    (λ k h. subst (λ lo. IsSlice t0 t1 facts c.args.a c.args.hi lo k) (sym c.if-lo-eq0.true) (slice_of_low_bits t0 t1 c.low_bits.ensures.grows facts c.args.a c.args.hi k h))
    c.low_bits.ensures.is

pub returns-clause-is : goal.returns-clause-is
returns-clause-is c facts = if_found c.class_of.result _ _ (slice_made c.args.table.now c.class_of.new.table c.class_of.ensures.grows facts c.args.a c.args.hi c.args.lo) c.class_of.ensures.stands
