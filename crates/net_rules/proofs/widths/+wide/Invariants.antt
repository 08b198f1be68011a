use Rattle.std.proofs.Common.{◌≡◌, map, drop}
use Rattle.net_model.specs.Written.{model_of_net_expr, case_rows_of, model_of_case_row, case_rest_of, other_of}
use Rattle.net_model.specs.TextWidths.{seen_rows, seen_first}
use Rattle.net_model.specs.Inner.Nodes.{nodes, nodes_rows, nodes_rest}
use Rattle.net_rules.specs.Inner.Scopes.{model_of_scope}
use Rattle.net_rules.specs.Inner.Widths.{model_of_seen}
use Rattle.net_rules.proofs.widths.+wide.Given as goal

abbrev pub decreases-wide : goal.decreases-wide
decreases-wide l = nodes (model_of_net_expr l.e.now)

abbrev pub decreases-seen_rows : goal.decreases-seen_rows
decreases-seen_rows l = nodes_rows (case_rows_of (map model_of_case_row l.rows.now))

abbrev pub decreases-seen_rest : goal.decreases-seen_rest
decreases-seen_rest l = nodes_rest (case_rest_of (other_of l.other.now))

abbrev pub invariant-seen_rows-loop-row : goal.invariant-seen_rows-loop-row
invariant-seen_rows-loop-row l =
    seen_rows (model_of_scope l.place) l.selector (model_of_seen l.seen) (case_rows_of (map model_of_case_row (drop l.row-index l.rows))) ≡ seen_rows (model_of_scope l.place) l.selector (seen_first l.selector) (case_rows_of (map model_of_case_row l.rows))
