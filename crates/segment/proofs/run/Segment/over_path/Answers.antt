use Rattle.segment.proofs.Putting.{over_path}
use Rattle.segment.proofs.run.Segment.over_path.Goals as goal

pub returns : goal.returns
returns c e =
    over_path c.args.self.now c.args.table.now c.behind.new.table c.test_elements.new.table c.args.run.now c.behind.new.run c.test_elements.new.run
    (c.in_ok-behind.ensures c.if-not-branch.false) c.in_ok-test_elements.ensures
