use Rattle.std.proofs.Common.{◌≡◌, ◌<◌, Some, rules, arith, ap, ◌∙◌, length, refl, subst}
use Rattle.std.specs.Prelude.{slice_get}
use Rattle.std.specs.Option.{option_map}
use Rattle.std.proofs.lemmas.List.{length-map}
use Rattle.std.proofs.lemmas.Option.{slice_get_read, slice_get-map}
use Rattle.form_model.specs.Covers.{stock_with}
use Rattle.form_model.specs.Forms.{aim_destination}
use Rattle.form_model.specs.Trees.{model_of_tree}
use Rattle.tree_sharing.specs.Sharing.{exprs_at}
use Rattle.cover.specs.Jobs.{trees_of}
use Rattle.cover_lacks.specs.Inner.Listed.{AddsRoot, AreAdded}
use Rattle.cover_lacks.proofs.JobLemmas.{all_taken, root_added, root_nodes}
use Rattle.cover_lacks.proofs.jobs.add_roots.Goals as goal

pub loop-j-preserved : goal.loop-j-preserved
loop-j-preserved c =
    let stock = stock_with c.args.forms.now.list.items c.args.temps c.args.forms.now.file in
    let job = c.args.job.now in
    let d = aim_destination job.aim in
    let trees = job.trees.items in
    let root = model_of_tree c.index.result.now in
    let lt : c.loop-j.j < length trees = search rules in
    let get : slice_get (trees_of trees) c.loop-j.j ≡ Some root = slice_get-map model_of_tree trees c.loop-j.j ∙ ap (option_map model_of_tree) (slice_get_read trees (length trees) c.loop-j.j c.index.result.now refl lt c.index.ensures) in
    let adds = subst (λ x. AddsRoot stock x root c.loop-j.list.nodes.items c.add_root.new.list.nodes.items c.loop-j.list.flags.items c.add_root.new.list.flags.items) c.of-destination.ensures c.in_ok-add_root.ensures in
    record {
      nodes = root_nodes stock d (trees_of trees) c.loop-j.j root get c.loop-j.list.nodes.items c.add_root.new.list.nodes.items c.loop-j.list.flags.items c.add_root.new.list.flags.items adds c.loop-j.invariant.nodes;
      added = root_added stock d (trees_of trees) c.loop-j.j root get c.loop-j.list.nodes.items c.add_root.new.list.nodes.items c.loop-j.list.flags.items c.add_root.new.list.flags.items adds c.loop-j.invariant.added;
    }

pub returns-clause-nodes : goal.returns-clause-nodes
returns-clause-nodes c =
    let job = c.args.job.now in
    let l = length-map job.trees.items model_of_tree in
    let n : c.loop-j.j ≡ length (trees_of job.trees.items) = omega (arith, l, c.loop-j-test.false, c.loop-j.auto.j-end) in
    c.loop-j.invariant.nodes ∙ all_taken (aim_destination job.aim) (trees_of job.trees.items) c.loop-j.j n

pub returns-clause-added : goal.returns-clause-added
returns-clause-added c =
    let stock = stock_with c.args.forms.now.list.items c.args.temps c.args.forms.now.file in
    let job = c.args.job.now in
    let n : c.loop-j.j ≡ length job.trees.items = omega (arith, c.loop-j-test.false, c.loop-j.auto.j-end) in
    subst (λ k. AreAdded stock (aim_destination job.aim) (trees_of job.trees.items) k (exprs_at c.loop-j.list.nodes.items) c.loop-j.list.flags.items) n c.loop-j.invariant.added
