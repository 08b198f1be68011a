use Rattle.class_values.proofs.sums.+has_more_terms.Given as goal

abbrev pub decreases-has_more_terms : goal.decreases-has_more_terms
decreases-has_more_terms l = l.most
