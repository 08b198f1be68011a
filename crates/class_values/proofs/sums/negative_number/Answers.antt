use Rattle.class_values.proofs.Made.{if_found}
use Rattle.class_values.proofs.Summing.{negative_number_made}
use Rattle.class_values.proofs.sums.negative_number.Goals as goal

pub returns-clause-is : goal.returns-clause-is
returns-clause-is c =
    if_found c.number.result _ _
    (λ k is. negative_number_made c.args.table.now c.number.new.table c.number.ensures.grows c.args.a c.args.of.width c.args.of.number c.apply1.result k c.requires c.apply1.ensures is)
    c.number.ensures.is
