-- The loops round a statement, as a list.
use Rattle.std.specs.Prelude.{List, [], ◌∷◌}
use Rattle.src_model.specs.Loops.{Round}
use Rattle.src_check.specs.declared.rounds.Rounds.{Rounds, Outside, Within'}

abbrev pub rounds_of : Rounds → List Round
rounds_of Outside = []
rounds_of (Within' counter from to p outer) = record { counter = counter.now; from = from; to = to } ∷ rounds_of outer
