use Rattle.spill.proofs.InOrder.{filled_many, filled_below, filled_once}
use Rattle.spill.proofs.laws.law_of_cells.Goals as goal

pub returns-clause-many : goal.returns-clause-many
returns-clause-many c = filled_many

pub returns-clause-below : goal.returns-clause-below
returns-clause-below c = filled_below

pub returns-clause-once : goal.returns-clause-once
returns-clause-once c = filled_once
