use Rattle.std.proofs.Common.{None, true}
use Rattle.form_model.specs.Trees.{model_of_tree}
use Rattle.tree_grammar.specs.Leaves.{model_of_destination}
use Rattle.tree_sharing.proofs.NodeLemmas.{root_stands}
use Rattle.cover_lacks.specs.Lacks.{RootAsks}
use Rattle.cover_lacks.specs.declared.asks.Look.{Look}
use Rattle.cover_lacks.specs.Inner.Asked.{LookAsks, search_nodes, search_stock}
use Rattle.cover_lacks.proofs.AskLemmas.{first_more}
use Rattle.cover_lacks.proofs.asks.unmade_of_root.Goals as goal

pub add_asked-requires-clause-stands : goal.add_asked-requires-clause-stands
add_asked-requires-clause-stands c = root_stands (model_of_destination c.args.search.now.destination) (model_of_tree c.args.search.now.tree.now)

pub loop-k-preserved : goal.loop-k-preserved
loop-k-preserved c =
    let search = c.args.search.now in
    let look : Look = record { goal = record { destination = search.destination; tree = search.tree; whole = true; at = 0 }; below = None } in
    let e = c.in_ok-add_asked.ensures in
    first_more (search_stock search) (search_nodes search) (RootAsks (search_stock search) (model_of_destination search.destination) (model_of_tree search.tree.now)) c.loop-k.k (LookAsks (search_stock search) look c.loop-k.k) c.loop-k.numbers.items c.add_asked.new.numbers.items e.added c.loop-k.invariant e.is e.are
    (λ t a. a.0) (λ t a. (a, tt))
