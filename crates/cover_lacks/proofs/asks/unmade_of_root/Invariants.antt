use Rattle.form_model.specs.Trees.{model_of_tree}
use Rattle.tree_grammar.specs.Leaves.{model_of_destination}
use Rattle.cover_lacks.specs.Lacks.{RootAsks}
use Rattle.cover_lacks.specs.Inner.Asked.{AreUnmade, FirstAsk, search_nodes, search_stock}
use Rattle.cover_lacks.proofs.asks.unmade_of_root.Given as goal

abbrev pub invariant-loop-k : goal.invariant-loop-k
invariant-loop-k l = AreUnmade (search_stock l.search) (search_nodes l.search) (FirstAsk (RootAsks (search_stock l.search) (model_of_destination l.search.destination) (model_of_tree l.search.tree.now)) l.k) l.numbers.items
