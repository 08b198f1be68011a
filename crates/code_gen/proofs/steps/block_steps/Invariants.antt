use Rattle.std.proofs.Common.{◌≡◌}
use Rattle.src_trees.specs.Blocks.{jobs_at}
use Rattle.right_code.specs.Cuts.{plans_at}
use Rattle.code_gen.specs.Inner.Planning.{planned_steps, plans_in, jobs_in}
use Rattle.code_gen.proofs.steps.block_steps.Given as goal

abbrev pub invariant-loop-k : goal.invariant-loop-k
invariant-loop-k l =
    l.steps.items ≡ planned_steps l.program.modes l.program.temps (jobs_at l.program.flow.now (jobs_in l.program) l.at l.k) (plans_at l.program.flow.now (plans_in l.program) l.at l.k)
