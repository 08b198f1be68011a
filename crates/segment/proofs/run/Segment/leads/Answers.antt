use Rattle.segment.proofs.Agreement.{if_end}
use Rattle.segment.proofs.Leading.{came_over}
use Rattle.segment.proofs.run.Segment.leads.Goals as goal

pub returns : goal.returns
returns c =
    if_end c.crosses.result _ _
    (λ address left h. came_over c.args.self.now c.args.table.now c.over_path.new.table c.args.run.now c.over_path.new.run (c.in_ok-over_path.ensures c.if-not-branch.false) address left h) c.crosses.ensures
