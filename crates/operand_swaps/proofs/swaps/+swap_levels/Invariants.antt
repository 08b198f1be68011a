use Rattle.operand_swaps.proofs.swaps.+swap_levels.Given as goal

abbrev pub decreases-swap_levels : goal.decreases-swap_levels
decreases-swap_levels l = l.levels
