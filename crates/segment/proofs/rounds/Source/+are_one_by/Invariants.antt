use Rattle.segment.proofs.rounds.Source.+are_one_by.Given as goal

abbrev pub decreases-are_one_by : goal.decreases-are_one_by
decreases-are_one_by l = l.count
