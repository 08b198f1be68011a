use Rattle.std.proofs.Common.{◌≡◌, arith, length}
use Rattle.std.specs.Borrow.{Bor}
use Rattle.std.proofs.lemmas.List.{length-map}
use Rattle.form_model.specs.Trees.{model_of_tree}
use Rattle.form_model.specs.declared.trees.Tree.{Tree}
use Rattle.tree_sharing.specs.Sharing.{exprs_at}
use Rattle.cover_lacks.proofs.ListedLemmas.{listed_all}
use Rattle.cover_lacks.proofs.listed.in_order.Goals as goal

pub returns : goal.returns
returns c =
    let nodes = c.args.nodes.now in
    let n : c.loop-n.n ≡ length (exprs_at nodes) = (let l = length-map nodes (λ (tree : Bor Tree). model_of_tree tree.now) in omega (arith, l, c.loop-n-test.false, c.loop-n.auto.n-end)) in
    listed_all nodes c.args.flags.now c.loop-n.n (exprs_at c.loop-n.list.items) n c.loop-n.invariant
