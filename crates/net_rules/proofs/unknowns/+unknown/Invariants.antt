use Rattle.std.proofs.Common.{◌≡◌, map, drop}
use Rattle.rec_bits.specs.Faults.{lesser_offset, least}
use Rattle.net_model.specs.Written.{model_of_net_expr, case_rows_of, model_of_case_row, case_rest_of, other_of}
use Rattle.net_model.specs.NameRules.{unknown_rows}
use Rattle.net_model.specs.Inner.Nodes.{nodes, nodes_rows, nodes_rest}
use Rattle.net_rules.specs.Inner.Scopes.{model_of_scope}
use Rattle.net_rules.proofs.unknowns.+unknown.Given as goal

abbrev pub decreases-unknown_in : goal.decreases-unknown_in
decreases-unknown_in l = nodes (model_of_net_expr l.e.now)

abbrev pub decreases-unknown_rows : goal.decreases-unknown_rows
decreases-unknown_rows l = nodes_rows (case_rows_of (map model_of_case_row l.rows.now))

abbrev pub decreases-unknown_other : goal.decreases-unknown_other
decreases-unknown_other l = nodes_rest (case_rest_of (other_of l.other.now))

abbrev pub invariant-unknown_rows-loop-row : goal.invariant-unknown_rows-loop-row
invariant-unknown_rows-loop-row l =
    lesser_offset l.found (least (unknown_rows (model_of_scope l.place) (case_rows_of (map model_of_case_row (drop l.row-index l.rows))))) ≡ least (unknown_rows (model_of_scope l.place) (case_rows_of (map model_of_case_row l.rows)))
