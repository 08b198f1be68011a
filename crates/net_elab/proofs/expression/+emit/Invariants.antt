use Rattle.std.proofs.Common.{◌+◌, map, drop}
use Rattle.net_model.specs.Written.{model_of_net_expr, case_rows_of, model_of_case_row, case_rest_of, other_of}
use Rattle.net_model.specs.Inner.Nodes.{nodes, nodes_rows, nodes_rest}
use Rattle.net_elab.specs.Inner.Sites.{model_of_site}
use Rattle.net_elab.proofs.Cases.{Rowed}
use Rattle.net_elab.proofs.expression.+emit.Given as goal

abbrev pub decreases-emit : goal.decreases-emit
decreases-emit l = nodes (model_of_net_expr l.e.now)

abbrev pub decreases-emit_case : goal.decreases-emit_case
decreases-emit_case l = nodes (model_of_net_expr l.written.now.sel.now) + nodes_rows (case_rows_of (map model_of_case_row l.written.now.rows.now)) + nodes_rest (case_rest_of (other_of l.written.now.rest.now)) + 1

abbrev pub decreases-emit_rows : goal.decreases-emit_rows
decreases-emit_rows l = nodes_rows (case_rows_of (map model_of_case_row l.rows.now))

abbrev pub decreases-emit_rest : goal.decreases-emit_rest
decreases-emit_rest l = nodes_rest (case_rest_of (other_of l.other.now))

abbrev pub invariant-emit_rows-loop-row : goal.invariant-emit_rows-loop-row
invariant-emit_rows-loop-row l = Rowed (model_of_site l.site) l.at l.fn.nets (case_rows_of (map model_of_case_row l.rows)) (case_rows_of (map model_of_case_row (drop l.row-index l.rows))) l.nets l.pairs.rows l.pairs.width
