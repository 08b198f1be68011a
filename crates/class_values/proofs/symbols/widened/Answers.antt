use Rattle.class_values.specs.Inner.Limbs.{IsLimb}
use Rattle.class_values.proofs.Made.{if_found, some_of}
use Rattle.class_values.proofs.Symbolic.{limb_widened}
use Rattle.class_values.proofs.symbols.widened.Goals as goal

pub returns-clause-is : goal.returns-clause-is
returns-clause-is c =
    let t1 = c.limb.new.table in
    let of = c.in-Some.of in
    let is = some_of (IsLimb t1 c.args.cell c.args.address) c.in_ok-of.field-0 of c.in-Some.is c.in_ok-of.ensures.is in
    if_found c.class_of.result _ _ (λ k s. limb_widened t1 c.class_of.new.table c.class_of.ensures.grows c.args.cell c.args.address c.args.width of k is s) c.class_of.ensures.stands
