use Rattle.std.proofs.Common.{◌≡◌, ◌+◌, ◌-◌, ◌*◌, max, vec_len}
use Rattle.net_model.specs.Exprs.{size_of}
use Rattle.form_model.specs.Trees.{model_of_tree}
use Rattle.least_costs.specs.Subgoals.{operands_size, exprs_size, rank}
use Rattle.least_costs.specs.Least.{OrderReached, FirstsBelow}
use Rattle.least_costs.specs.Rows.{IsTried, NoneAbove}
use Rattle.least_costs.specs.Searches.{search_stock, open_operands, open_cuts}
use Rattle.least_costs.specs.Tables.{AreRight}
use Rattle.least_costs.proofs.search.Search.+covering.Given as goal

abbrev pub decreases-least : goal.decreases-least
decreases-least l = 32 * size_of (model_of_tree l.subtree.tree.now) + 16 * rank l.self.now.file l.limits + 4

abbrev pub decreases-operand_cost : goal.decreases-operand_cost
decreases-operand_cost l = 32 * size_of (model_of_tree l.operand.tree.now) + 16 * rank l.self.now.file l.limits + 5

abbrev pub decreases-least_row : goal.decreases-least_row
decreases-least_row l = 32 * size_of (model_of_tree l.subtree.tree.now) + 16 * rank l.self.now.file l.limits + 3

abbrev pub decreases-row_of : goal.decreases-row_of
decreases-row_of l = 32 * size_of (model_of_tree l.matches.now.tree.now) + 16 * rank l.self.now.file l.limits + 2

abbrev pub decreases-fill : goal.decreases-fill
decreases-fill l = 32 * size_of (model_of_tree l.matches.now.tree.now) + 16 * rank l.self.now.file l.limits + 1

abbrev pub decreases-offer_at : goal.decreases-offer_at
decreases-offer_at l = 32 * size_of (model_of_tree l.matches.now.tree.now) + 16 * rank l.self.now.file l.limits

abbrev pub decreases-cost_below : goal.decreases-cost_below
decreases-cost_below l = max (32 * operands_size (open_operands l.operands.now) + 26) (32 * exprs_size (open_cuts l.cuts.now) + 9)

abbrev pub decreases-floor_of : goal.decreases-floor_of
decreases-floor_of l = 32 * operands_size (open_operands l.ops.now) + 25

abbrev pub decreases-orders : goal.decreases-orders
decreases-orders l = 32 * operands_size (open_operands l.ops.now) + 25

abbrev pub decreases-orders_from : goal.decreases-orders_from
decreases-orders_from l = 32 * operands_size (open_operands l.ops.now) + 24

abbrev pub decreases-orders_after : goal.decreases-orders_after
decreases-orders_after l = 32 * operands_size (open_operands l.ops.now) + 23

abbrev pub decreases-cuts_cost : goal.decreases-cuts_cost
decreases-cuts_cost l = 32 * exprs_size (open_cuts l.cuts.now) + 8

abbrev pub invariant-orders-loop-i : goal.invariant-orders-loop-i
invariant-orders-loop-i l = record {
  reached : OrderReached (search_stock l.self) l.limits (open_operands l.ops) l.best;
  least : FirstsBelow (search_stock l.self) l.limits (open_operands l.ops) l.i l.best;
  right : AreRight l.self l.table;
}

abbrev pub invariant-fill-loop-i : goal.invariant-fill-loop-i
invariant-fill-loop-i l = record {
  len : vec_len l.row ≡ 18;
  tried : IsTried (search_stock l.self) l.limits (model_of_tree l.matches.tree.now) l.matches.whole l.matches.list.items l.i l.chains.items l.row.items;
  low : NoneAbove (36 * size_of (model_of_tree l.matches.tree.now) - 17) l.row.items;
  right : AreRight l.self l.table;
}
