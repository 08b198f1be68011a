use Rattle.std.proofs.Common.{◌≡◌, ap, map}
use Rattle.form_model.specs.Forms.{aim_destination}
use Rattle.form_model.specs.Trees.{model_of_tree}
use Rattle.src_trees.specs.Jobs.{model_of_job}
use Rattle.tree_laws.specs.Classes.{cell_bits}
use Rattle.respell.proofs.SpelledLemmas.{job_spelled}
use Rattle.respell.proofs.jobs.spelled_job.Goals as goal

pub returns-clause-respelled : goal.returns-clause-respelled
returns-clause-respelled c =
    let own = c.args.own in
    let tree = c.in_ok-other.other.tree in
    job_spelled (cell_bits c.args.picks.now.graph.table.now) c.in_ok-other.other.turned (model_of_job own.job.now) (aim_destination c.in_ok-aim.aim) (map model_of_tree c.in_ok-trees.trees.items) (model_of_tree own.tree.now) (model_of_tree tree) c.requires
    (ap (map model_of_tree) c.in_ok-trees.ensures) c.in_ok-aim.ensures c.in_ok-other.ensures.spelled c.in_ok-other.ensures.reads
