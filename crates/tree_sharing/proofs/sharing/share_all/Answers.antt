use Rattle.std.proofs.Common.{sym, subst, arith, length, ◌≡◌, ◌+◌}
use Rattle.net_model.specs.Exprs.{size_of}
use Rattle.form_model.specs.Trees.{model_of_tree}
use Rattle.tree_grammar.specs.Numbers.{HoldsSubtrees}
use Rattle.tree_grammar.specs.Leaves.{model_of_destination}
use Rattle.tree_sharing.specs.Sharing.{job_nodes}
use Rattle.tree_sharing.specs.Inner.Sharing.{AreDoneBelow, HaveNumbers}
use Rattle.tree_sharing.proofs.NodeLemmas.{root_stands}
use Rattle.tree_sharing.proofs.SharingLemmas.{all_done, job_length}
use Rattle.tree_sharing.proofs.sharing.share_all.Goals as goal

pub returns : goal.returns
returns c =
    let destination = model_of_destination c.args.destination in
    let tree = model_of_tree c.args.tree.now in
    let nodes = job_nodes destination tree in
    let stands = root_stands destination tree in
    let address = c.in_ok-share_address.ensures.done nodes stands.address (subst (HaveNumbers nodes) (sym c.requires.none) tt) in
    let len : length c.share.new.sharing.firsts.items ≡ c.args.at + size_of tree =
    omega (arith, c.share.new.sharing.firsts.ok.0, c.in_ok-share.ensures.len, c.in_ok-share_address.ensures.len, c.requires.len) in
    let count : length nodes ≡ c.args.at + size_of tree = omega (arith, job_length destination tree, c.requires.at) in
    all_done nodes c.share_address.new.sharing c.share.new.sharing c.args.at c.in_ok-share.field-0.first tree
    (subst (AreDoneBelow nodes c.share_address.new.sharing) (sym c.requires.at) address)
    c.in_ok-share.ensures.shared
    (subst (λ n. HoldsSubtrees nodes n tree) (sym c.requires.at) stands.value) len count
