use Rattle.class_values.proofs.low.+low_within.Given as goal

abbrev pub decreases-low_within : goal.decreases-low_within
decreases-low_within l = l.levels
