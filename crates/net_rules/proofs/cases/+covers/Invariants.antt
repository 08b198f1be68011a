use Rattle.std.proofs.Common.{◌≡◌, map, drop}
use Rattle.net_model.specs.Written.{model_of_net_expr, case_rows_of, model_of_case_row, case_rest_of, other_of}
use Rattle.net_model.specs.DriverRules.{covers_rows}
use Rattle.net_model.specs.Inner.Nodes.{nodes, nodes_rows, nodes_rest}
use Rattle.net_rules.specs.Inner.Scopes.{model_of_scope}
use Rattle.net_rules.proofs.cases.+covers.Given as goal

abbrev pub decreases-covers : goal.decreases-covers
decreases-covers l = nodes (model_of_net_expr l.e.now)

abbrev pub decreases-covers_rows : goal.decreases-covers_rows
decreases-covers_rows l = nodes_rows (case_rows_of (map model_of_case_row l.rows.now))

abbrev pub decreases-covers_rest : goal.decreases-covers_rest
decreases-covers_rest l = nodes_rest (case_rest_of (other_of l.other.now))

abbrev pub invariant-covers_rows-loop-row : goal.invariant-covers_rows-loop-row
invariant-covers_rows-loop-row l =
    covers_rows (model_of_scope l.place) (case_rows_of (map model_of_case_row (drop l.row-index l.rows))) ≡ covers_rows (model_of_scope l.place) (case_rows_of (map model_of_case_row l.rows))
