use Rattle.class_values.proofs.sums.+placed.Given as goal

abbrev pub decreases-placed : goal.decreases-placed
decreases-placed l = l.a
