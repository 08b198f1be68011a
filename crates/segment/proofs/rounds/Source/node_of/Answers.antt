use Rattle.segment.proofs.rounds.Source.node_of.Goals as goal

pub returns-then-are_same : goal.returns-then-are_same
returns-then-are_same c = record { found = c.in_ok-found.found; stands = c.in_ok-found.ensures.stands; same = c.are_same.ensures c.if-are_same.true }
