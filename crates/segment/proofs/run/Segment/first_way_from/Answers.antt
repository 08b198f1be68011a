use Rattle.segment.proofs.Agreement.{found_as}
use Rattle.segment.proofs.Bridge.{found_first}
use Rattle.segment.proofs.Leading.{begun_from}
use Rattle.segment.proofs.run.Segment.first_way_from.Goals as goal

pub returns : goal.returns
returns c =
    found_first c.args.self.now c.in_ok-end.end c.way_to.result c.way_to.ensures.taken
    (found_as c.in_ok-end.end _ _ (λ address left. begun_from c.args.self.now c.args.table.now c.count.new.table c.args.run.now c.count.new.run c.requires.begun c.in_ok-count.ensures address left) c.in_ok-end.ensures)
