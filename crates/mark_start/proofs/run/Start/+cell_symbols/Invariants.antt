use Rattle.mark_start.proofs.run.Start.+cell_symbols.Given as goal

abbrev pub decreases-cell_symbols : goal.decreases-cell_symbols
decreases-cell_symbols l = l.count
