use Rattle.std.proofs.lemmas.Result.{IfOk-weaker}
use Rattle.form_model.specs.Trees.{model_of_tree}
use Rattle.tree_grammar.specs.Leaves.{model_of_destination}
use Rattle.tree_sharing.proofs.NodeLemmas.{root_stands}
use Rattle.least_costs.specs.Made.{IsLeastCost}
use Rattle.least_costs.specs.Subgoals.{SubgoalModel, free}
use Rattle.least_costs.specs.Least.{IsLeast}
use Rattle.least_costs.specs.Searches.{search_stock}
use Rattle.least_costs.proofs.MadeLemmas.{least_orderly}
use Rattle.least_costs.proofs.search.Search.cost_in.Goals as goal

pub least_of-requires-clause-stands : goal.least_of-requires-clause-stands
least_of-requires-clause-stands c = root_stands (model_of_destination c.args.self.now.destination) (model_of_tree c.args.self.now.tree.now)

pub returns : goal.returns
returns c =
    let search = c.args.self.now in
    let ask : SubgoalModel = record { destination = model_of_destination search.destination; tree = model_of_tree search.tree.now; whole = c.args.whole } in
    IfOk-weaker c.least_of.result (IsLeast (search_stock search) (free (search_stock search)) ask) (IsLeastCost (search_stock search) (model_of_destination search.destination) (model_of_tree search.tree.now) c.args.whole)
    (least_orderly (search_stock search) ask) c.least_of.ensures.least
