use Rattle.std.proofs.Common.{map, drop}
use Rattle.net_model.specs.Written.{model_of_net_expr, case_rows_of, model_of_case_row, case_rest_of, other_of}
use Rattle.net_model.specs.Numbering.{count_rows}
use Rattle.net_model.specs.Inner.Nodes.{nodes, nodes_rows, nodes_rest}
use Rattle.net_rules.specs.Inner.Counts.{Counted}
use Rattle.net_rules.proofs.count.+count.Given as goal

abbrev pub decreases-count : goal.decreases-count
decreases-count l = nodes (model_of_net_expr l.e.now)

abbrev pub decreases-count_rows : goal.decreases-count_rows
decreases-count_rows l = nodes_rows (case_rows_of (map model_of_case_row l.rows.now))

abbrev pub decreases-count_rest : goal.decreases-count_rest
decreases-count_rest l = nodes_rest (case_rest_of (other_of l.other.now))

abbrev pub invariant-count_rows-loop-row : goal.invariant-count_rows-loop-row
invariant-count_rows-loop-row l = Counted l.total (count_rows (case_rows_of (map model_of_case_row (drop l.row-index l.rows)))) (count_rows (case_rows_of (map model_of_case_row l.rows)))
