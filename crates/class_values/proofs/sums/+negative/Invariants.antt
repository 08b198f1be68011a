use Rattle.class_values.proofs.sums.+negative.Given as goal

abbrev pub decreases-negative : goal.decreases-negative
decreases-negative l = l.a
