use Rattle.std.proofs.Common.{◌<◌, ◌^◌}
use Rattle.std.specs.Prelude.{IfSome}
use Rattle.least_costs.specs.Subgoals.{free}
use Rattle.least_costs.specs.Searches.{search_stock, search_nodes, OperandsAt, CutsAt}
use Rattle.least_costs.specs.Fits.{model_of_subgoal, fit_cost, IsBestAmong}
use Rattle.least_costs.specs.Tables.{AreRight}
use Rattle.least_costs.proofs.search.Search.best_fit.Given as goal

abbrev pub invariant-loop-k : goal.invariant-loop-k
invariant-loop-k l = record {
  best : IsBestAmong (search_stock l.self) (free (search_stock l.self)) (model_of_subgoal l.goal) l.k l.best;
  at : IfSome l.best (λ b. OperandsAt (search_nodes l.self) b.fit.operands.items);
  cuts_at : IfSome l.best (λ b. CutsAt (search_nodes l.self) b.fit.cuts.items);
  few : IfSome l.best (λ b. fit_cost b.fit < 2 ^ 64);
  right : AreRight l.self l.table;
}
