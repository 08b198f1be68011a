use Rattle.class_values.proofs.sums.+joined.Given as goal

abbrev pub decreases-joined : goal.decreases-joined
decreases-joined l = l.a
