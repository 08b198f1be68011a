use Rattle.mark_start.proofs.run.Start.+symbols.Given as goal

abbrev pub decreases-symbols : goal.decreases-symbols
decreases-symbols l = l.count
