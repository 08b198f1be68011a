use Rattle.class_values.specs.Values.{IsNumber}
use Rattle.class_values.proofs.Made.{if_found, some_of}
use Rattle.class_values.proofs.Symbolic.{limb_made}
use Rattle.class_values.proofs.symbols.limb.Goals as goal

pub returns-clause-is : goal.returns-clause-is
returns-clause-is c =
    let t1 = c.number.new.table in
    let at = c.in-Some.at in
    let is = some_of (IsNumber t1 64 c.args.address) c.in_ok-at.field-0 at c.in-Some.is c.in_ok-at.ensures.is in
    if_found c.class_of.result _ _ (λ k s. limb_made t1 c.class_of.new.table c.class_of.ensures.grows c.args.cell c.args.address at k is s) c.class_of.ensures.stands
