use Rattle.class_values.proofs.Made.{if_found, number_made}
use Rattle.class_values.proofs.numbers.number.Goals as goal

pub returns-clause-is : goal.returns-clause-is
returns-clause-is c = if_found c.class_of.result _ _ (number_made c.class_of.new.table c.args.width c.args.value) c.class_of.ensures.stands
