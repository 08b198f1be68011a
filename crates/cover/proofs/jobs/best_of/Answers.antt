use Rattle.std.proofs.Common.{◌<◌, length, rules}
use Rattle.form_model.specs.Forms.{aim_destination}
use Rattle.form_model.specs.Covers.{stock_with}
use Rattle.cover.proofs.BestLemmas.{best_step}
use Rattle.cover.proofs.jobs.best_of.Goals as goal

pub loop-j-preserved : goal.loop-j-preserved
loop-j-preserved c =
    let lt : c.loop-j.j < length c.args.job.now.trees.items = search rules in
    best_step (stock_with c.args.forms.now c.args.temps c.args.file) (aim_destination c.args.job.now.aim) c.args.job.now.trees.items c.loop-j.j c.loop-j.best c.better-best.result c.in_ok-tree_cover.tree_cover lt c.loop-j.invariant c.in_ok-tree_cover.ensures c.better-best.ensures
