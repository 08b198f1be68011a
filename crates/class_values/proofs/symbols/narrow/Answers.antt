use Rattle.class_values.specs.Inner.Limbs.{IsLimb}
use Rattle.class_values.proofs.Made.{if_found, some_of}
use Rattle.class_values.proofs.Symbolic.{narrow_made}
use Rattle.class_values.proofs.symbols.narrow.Goals as goal

pub returns-clause-is : goal.returns-clause-is
returns-clause-is c =
    let t1 = c.limb.new.table in
    let low = c.in-Some.low in
    let is = some_of (IsLimb t1 c.args.cell c.args.address) c.in_ok-low.field-0 low c.in-Some.is c.in_ok-low.ensures.is in
    if_found c.low_bits.result _ _
    (λ k h. narrow_made t1 c.low_bits.new.table c.low_bits.ensures.grows c.args.cell c.args.address c.args.width low k c.requires.some c.requires.within is h) c.low_bits.ensures.is
