use Rattle.mode_set.specs.Plans.{stock_at}
use Rattle.code_gen.specs.Inner.Planning.{plans_in, jobs_in}
use Rattle.code_gen.proofs.Running.{even}
use Rattle.code_gen.proofs.Stepping.{place_more}
use Rattle.code_gen.proofs.steps.block_steps.Goals as goal

pub loop-k-preserved : goal.loop-k-preserved
loop-k-preserved c =
    let modes = c.args.program.now.modes in
    let program = c.args.program.now in
    let p = c.requires.planned in
    place_more (jobs_in program) (plans_in program) (even modes program p.task p.isas p.planning) (stock_at modes.forms.now program.temps) program.flow.now c.args.at c.loop-k.k c.loop-k.steps.items c.push_place.new.steps.items
    c.loop-k.invariant c.in_ok-push_place.ensures
