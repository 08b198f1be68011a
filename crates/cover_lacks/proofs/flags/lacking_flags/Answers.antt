use Rattle.form_model.specs.Trees.{model_of_tree}
use Rattle.tree_grammar.specs.Leaves.{model_of_destination}
use Rattle.cover_lacks.specs.Inner.Asked.{search_stock}
use Rattle.cover_lacks.proofs.FlagLemmas.{visited_flags, visited_some}
use Rattle.cover_lacks.proofs.flags.lacking_flags.Goals as goal

pub returns-clause-flags : goal.returns-clause-flags
returns-clause-flags c =
    let search = c.args.search.now in
    let flags = c.visit_all.new.flags in
    visited_flags (search_stock search) (model_of_destination search.destination) (model_of_tree search.tree.now) flags.missed.items flags.lacking.items c.in_ok-visit_all.ensures

pub returns-clause-some : goal.returns-clause-some
returns-clause-some c =
    let search = c.args.search.now in
    let flags = c.visit_all.new.flags in
    visited_some (search_stock search) (model_of_destination search.destination) (model_of_tree search.tree.now) flags.missed.items flags.lacking.items c.in_ok-visit_all.ensures
