use Rattle.form_model.specs.Trees.{model_of_tree}
use Rattle.least_costs.specs.Matched.{AreFirstMatches}
use Rattle.least_costs.proofs.search.Search.matches_of.Given as goal

abbrev pub invariant-loop-k : goal.invariant-loop-k
invariant-loop-k l = AreFirstMatches l.self (model_of_tree l.subtree.tree.now) l.subtree.whole l.k l.list.items
