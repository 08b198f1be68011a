use Rattle.std.proofs.Common.{sym}
use Rattle.segment.proofs.rounds.Source.has_cells.Goals as goal

pub returns-in-Some-clause-bits : goal.returns-in-Some-clause-bits
returns-in-Some-clause-bits c e = sym c.in-Some.ensures.0.0

pub returns-in-Some-clause-width : goal.returns-in-Some-clause-width
returns-in-Some-clause-width c e = c.in-Some.ensures.0.2
