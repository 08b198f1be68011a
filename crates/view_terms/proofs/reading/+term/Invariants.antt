use Rattle.std.proofs.Common.{◌+◌, ◌*◌}
use Rattle.view_terms.proofs.reading.+term.Given as goal

-- a level less behind each parenthesis; within one, each function calls one with a smaller rest

abbrev pub decreases-called : goal.decreases-called
decreases-called l = 8 * l.levels + 4

abbrev pub decreases-last_operand : goal.decreases-last_operand
decreases-last_operand l = 8 * l.levels + 3

abbrev pub decreases-next_operand : goal.decreases-next_operand
decreases-next_operand l = 8 * l.levels + 2

abbrev pub decreases-operand : goal.decreases-operand
decreases-operand l = 8 * l.levels + 1

abbrev pub decreases-term : goal.decreases-term
decreases-term l = 8 * l.levels
