use Rattle.net_model.specs.Exprs.{size_of}
use Rattle.form_model.specs.Trees.{model_of_tree}
use Rattle.respell.proofs.reads.+reads_no_more.Given as goal

abbrev pub decreases-reads_no_more : goal.decreases-reads_no_more
decreases-reads_no_more l = size_of (model_of_tree l.new.now)
