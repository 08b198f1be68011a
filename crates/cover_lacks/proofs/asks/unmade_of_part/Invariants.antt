use Rattle.form_model.specs.Trees.{model_of_tree}
use Rattle.cover_lacks.specs.Lacks.{PartAsks}
use Rattle.cover_lacks.specs.Inner.Asked.{AreAfter, AreUnmade, FirstAsk, search_nodes, search_stock}
use Rattle.cover_lacks.proofs.asks.unmade_of_part.Given as goal

abbrev pub invariant-loop-k : goal.invariant-loop-k
invariant-loop-k l = record {
  unmade : AreUnmade (search_stock l.search) (search_nodes l.search) (FirstAsk (PartAsks (search_stock l.search) (model_of_tree l.part)) l.k) l.numbers.items;
  after : AreAfter l.at l.numbers.items;
}
