use Rattle.class_values.proofs.products.+scaled.Given as goal

abbrev pub decreases-scaled : goal.decreases-scaled
decreases-scaled l = l.a
