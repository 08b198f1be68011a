use Rattle.std.proofs.Common.{◌≡◌, length, arith, ap}
use Rattle.std.specs.Borrow.{Bor}
use Rattle.std.proofs.lemmas.List.{length-map}
use Rattle.form_model.specs.Trees.{model_of_tree}
use Rattle.form_model.specs.declared.trees.Tree.{Tree}
use Rattle.least_costs.specs.Searches.{search_stock, search_nodes}
use Rattle.least_costs.proofs.MadeLemmas.{made_all}
use Rattle.least_costs.proofs.search.Search.made_among.Goals as goal

pub returns : goal.returns
returns c =
    let n : c.loop-at.at ≡ length (search_nodes c.args.self.now) = (let a = ap length c.requires.nodes in
    let l = length-map c.args.nodes.now (λ (tree : Bor Tree). model_of_tree tree.now) in
    omega (arith, a, l, c.loop-at-test.false, c.loop-at.auto.at-end)) in
    made_all (search_stock c.args.self.now) (search_nodes c.args.self.now) c.loop-at.at c.loop-at.made.items n c.loop-at.invariant.below
