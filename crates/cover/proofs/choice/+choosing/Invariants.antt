use Rattle.std.proofs.Common.{◌≡◌, ◌≢◌, ℕ, Some, ◌+◌, ◌*◌, ◌<◌}
use Rattle.form_model.specs.CoverModels.{CoverModel, CoverOperandsModel, operand_then, cost, operands_cost}
use Rattle.least_costs.specs.Subgoals.{AreSparing}
use Rattle.std.specs.Prelude.{slice_get}
use Rattle.least_costs.specs.declared.matches.FormMatch.{FormMatch}
use Rattle.cover.specs.Inner.Choice.{matches_subgoal, NeverBegins}
use Rattle.least_costs.specs.Searches.{search_stock, open_operands}
use Rattle.least_costs.specs.Tables.{AreRight}
use Rattle.cover.proofs.choice.+choosing.Given as goal

abbrev pub decreases-choose_entry : goal.decreases-choose_entry
decreases-choose_entry l = 5 * l.target.cost + 1

abbrev pub decreases-choose_among : goal.decreases-choose_among
decreases-choose_among l = 5 * l.target.cost

abbrev pub decreases-choose_parts : goal.decreases-choose_parts
decreases-choose_parts l = 5 * (l.start.costs.operands + l.start.costs.cuts) + 4

abbrev pub decreases-order_from : goal.decreases-order_from
decreases-order_from l = 5 * l.n + 2

abbrev pub decreases-order_without : goal.decreases-order_without
decreases-order_without l = 5 * l.n + 4

abbrev pub decreases-choose_order : goal.decreases-choose_order
decreases-choose_order l = 5 * l.n + 3

abbrev pub decreases-choose_cuts : goal.decreases-choose_cuts
decreases-choose_cuts l = 5 * l.n + 3

abbrev pub invariant-choose_among-loop-i : goal.invariant-choose_among-loop-i
invariant-choose_among-loop-i l = record {
  never : (j : ℕ) (m : FormMatch) → j < l.i → slice_get l.matches.list.items j ≡ Some m → NeverBegins (search_stock l.search) l.target.limits (matches_subgoal l.matches l.target.entry) l.target.cost m.form;
  right : AreRight l.search l.table;
}

abbrev pub invariant-choose_order-loop-i : goal.invariant-choose_order-loop-i
invariant-choose_order-loop-i l = record {
  never : (j : ℕ) (p : CoverModel) (ps : CoverOperandsModel) → j < l.i → AreSparing (search_stock l.search) l.limits (open_operands l.ops) (operand_then j p ps) → cost p + operands_cost ps ≢ l.n;
  right : AreRight l.search l.table;
}
