use Rattle.std.proofs.Common.{◌≡◌, take}
use Rattle.form_model.specs.Covers.{stock_with}
use Rattle.form_model.specs.Forms.{aim_destination}
use Rattle.tree_sharing.specs.Sharing.{exprs_at}
use Rattle.cover.specs.Jobs.{trees_of}
use Rattle.cover_lacks.specs.Lacks.{all_nodes}
use Rattle.cover_lacks.specs.Inner.Listed.{AreAdded}
use Rattle.cover_lacks.proofs.jobs.add_roots.Given as goal

abbrev pub invariant-loop-j : goal.invariant-loop-j
invariant-loop-j l = record {
  nodes : exprs_at l.list.nodes.items ≡ all_nodes (aim_destination l.job.aim) (take l.j (trees_of l.job.trees.items));
  added : AreAdded (stock_with l.forms.list.items l.temps l.forms.file) (aim_destination l.job.aim) (trees_of l.job.trees.items) l.j (exprs_at l.list.nodes.items) l.list.flags.items;
}
