use Rattle.test_run.proofs.Cells.{cell_added}
use Rattle.test_run.proofs.starting.cells.Goals as goal

pub loop-address-preserved : goal.loop-address-preserved
loop-address-preserved c =
    cell_added c.args.width c.loop-address.address c.args.size c.number_after.result c.loop-address.cells c.push.new.self _ c.loop-address-test.true c.number_after.ensures c.in_ok-push.ensures.pushed c.loop-address.invariant
