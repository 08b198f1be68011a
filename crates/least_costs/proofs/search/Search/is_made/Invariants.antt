use Rattle.std.proofs.Common.{ℕ, ◌<◌}
use Rattle.form_model.specs.Trees.{model_of_tree}
use Rattle.least_costs.specs.Inner.Made.{NeverMakes}
use Rattle.least_costs.specs.Searches.{search_stock}
use Rattle.least_costs.specs.Tables.{AreRight}
use Rattle.least_costs.proofs.search.Search.is_made.Given as goal

abbrev pub invariant-loop-k : goal.invariant-loop-k
invariant-loop-k l = record {
  below : (k : ℕ) → k < l.k → NeverMakes (search_stock l.self) (model_of_tree l.tree) k;
  right : AreRight l.self l.table;
}
