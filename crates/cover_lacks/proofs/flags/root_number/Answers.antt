use Rattle.std.proofs.Common.{◌≡◌, ◌-◌, length, arith, ap, ◌∙◌}
use Rattle.std.specs.Prelude.{slice_get}
use Rattle.std.specs.Borrow.{Bor}
use Rattle.std.proofs.lemmas.List.{length-map}
use Rattle.form_model.specs.Trees.{model_of_tree}
use Rattle.form_model.specs.declared.trees.Tree.{Tree}
use Rattle.tree_grammar.specs.Leaves.{model_of_destination, value_at}
use Rattle.tree_grammar.proofs.NumberLemmas.{holds_here}
use Rattle.tree_sharing.proofs.NodeLemmas.{root_stands}
use Rattle.tree_sharing.proofs.SharingLemmas.{job_length}
use Rattle.cover_lacks.specs.Inner.Asked.{search_nodes}
use Rattle.cover_lacks.proofs.flags.root_number.Goals as goal

pub overflow_sub-result : goal.overflow_sub-result
overflow_sub-result c =
    let search = c.args.search.now in
    let a = ap length c.requires.nodes in
    let b = length-map search.nodes.now (λ (tree : Bor Tree). model_of_tree tree.now) in
    let l = job_length (model_of_destination search.destination) (model_of_tree search.tree.now) in
    omega (arith, a, b, l, c.in_ok-size.ensures)

pub returns : goal.returns
returns c =
    let search = c.args.search.now in
    let d = model_of_destination search.destination in
    let t = model_of_tree search.tree.now in
    let e : length search.nodes.now - c.in_ok-size.size ≡ value_at d 0 =
    (let a = ap length c.requires.nodes in
    let b = length-map search.nodes.now (λ (tree : Bor Tree). model_of_tree tree.now) in
    let l = job_length d t in
    omega (arith, a, b, l, c.in_ok-size.ensures)) in
    ap (slice_get (search_nodes search)) e ∙ holds_here (search_nodes search) (value_at d 0) t (root_stands d t).value
