use Rattle.form_model.specs.Trees.{model_of_tree}
use Rattle.tree_grammar.specs.Leaves.{model_of_destination}
use Rattle.cover_lacks.specs.Inner.Asked.{search_stock}
use Rattle.cover_lacks.specs.Inner.Flags.{IsVisited}
use Rattle.cover_lacks.proofs.flags.visit_all.Given as goal

abbrev pub invariant-loop-at : goal.invariant-loop-at
invariant-loop-at l = IsVisited (search_stock l.search) (model_of_destination l.search.destination) (model_of_tree l.search.tree.now) l.at l.flags.missed.items l.flags.lacking.items
