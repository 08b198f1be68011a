use Rattle.class_values.proofs.numbers.+told_by.Given as goal

abbrev pub decreases-told_by : goal.decreases-told_by
decreases-told_by l = l.negations
