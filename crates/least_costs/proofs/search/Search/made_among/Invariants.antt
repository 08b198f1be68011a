use Rattle.least_costs.specs.Inner.Made.{AreMadeBelow}
use Rattle.least_costs.specs.Searches.{search_stock, search_nodes}
use Rattle.least_costs.specs.Tables.{AreRight}
use Rattle.least_costs.proofs.search.Search.made_among.Given as goal

abbrev pub invariant-loop-at : goal.invariant-loop-at
invariant-loop-at l = record {
  below : AreMadeBelow (search_stock l.self) (search_nodes l.self) l.at l.made.items;
  right : AreRight l.self l.table;
}
