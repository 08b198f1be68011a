use Rattle.std.proofs.Common.{arith}
use Rattle.std.proofs.lemmas.Grind.{common_steps}
use Rattle.std.proofs.lemmas.Result.{IfOk-at_ok}
use Rattle.src_trees.proofs.jobs.counting_job.Goals as goal

pub returns : goal.returns
returns c =
    let made = IfOk-at_ok _ c.in_ok-same-2.ensures.made c.counted-2.ensures in
    grind (arith, common_steps, made)
