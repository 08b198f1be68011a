use Rattle.std.proofs.Common.{◌+◌, ◌*◌, ◌++◌, length, map}
use Rattle.grammar.specs.Reading.{Leads, ListOf}
use Rattle.net_model.specs.Grammar.{IsExpr, IsRow, RowsBehind}
use Rattle.net_model.specs.Written.{model_of_case_row}
use Rattle.net_parser.specs.Inner.Steps.{after_rows}
use Rattle.net_parser.proofs.expression.+expr.Given as goal

abbrev pub decreases-expr : goal.decreases-expr
decreases-expr l = 20 * l.depth

abbrev pub decreases-expr_behind : goal.decreases-expr_behind
decreases-expr_behind l = 20 * l.depth + 1

abbrev pub decreases-enclosed : goal.decreases-enclosed
decreases-enclosed l = 20 * l.depth + 2

abbrev pub decreases-pair : goal.decreases-pair
decreases-pair l = 20 * l.depth + 3

abbrev pub decreases-widened : goal.decreases-widened
decreases-widened l = 20 * l.depth + 3

abbrev pub decreases-sliced : goal.decreases-sliced
decreases-sliced l = 20 * l.depth + 3

abbrev pub decreases-reading : goal.decreases-reading
decreases-reading l = 20 * l.depth + 3

abbrev pub decreases-row : goal.decreases-row
decreases-row l = 20 * l.depth + 3

abbrev pub decreases-rows : goal.decreases-rows
decreases-rows l = 20 * l.depth + 4

abbrev pub decreases-otherwise : goal.decreases-otherwise
decreases-otherwise l = 20 * l.depth + 3

abbrev pub decreases-rows_behind : goal.decreases-rows_behind
decreases-rows_behind l = 20 * l.depth + 5

abbrev pub decreases-arms : goal.decreases-arms
decreases-arms l = 20 * l.depth + 6

abbrev pub decreases-braced : goal.decreases-braced
decreases-braced l = 20 * l.depth + 7

abbrev pub decreases-choice : goal.decreases-choice
decreases-choice l = 20 * l.depth + 8

abbrev pub decreases-operated : goal.decreases-operated
decreases-operated l = 20 * l.depth + 9

-- what completes the rows so far completes the rows behind the first one
abbrev pub invariant-rows-others : goal.invariant-rows-others
invariant-rows-others l = Leads (λ rs. map model_of_case_row l.rows.items ++ rs) (ListOf (IsRow (IsExpr l.depth))) after_rows l.rest (RowsBehind (IsExpr l.depth) (model_of_case_row l.fn.first)) after_rows l.fn.ts

abbrev pub decreases-rows-others : goal.decreases-rows-others
decreases-rows-others l = length l.rest
