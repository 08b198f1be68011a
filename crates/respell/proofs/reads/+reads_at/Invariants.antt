use Rattle.net_model.specs.Exprs.{size_of}
use Rattle.form_model.specs.Trees.{model_of_tree}
use Rattle.respell.proofs.reads.+reads_at.Given as goal

abbrev pub decreases-reads_at : goal.decreases-reads_at
decreases-reads_at l = size_of (model_of_tree l.tree.now)
