use Rattle.segment.proofs.Agreement.{if_end}
use Rattle.segment.proofs.Leading.{came, came_later, came_told}
use Rattle.segment.proofs.run.Segment.+cross.Goals as goal

pub crosses-returns-in-Arrives : goal.crosses-returns-in-Arrives
crosses-returns-in-Arrives t c =
    if_end c.comes.result _ _
    (λ address left h. came c.args.self.now c.args.table.now c.cross.new.table c.comes.new.table c.args.run.now c.as_slice.result c.as_slice.ensures c.in_ok-arrival.field-0 c.in-Arrives.arrival c.in-Arrives.is address left
    c.in_ok-arrival.ensures.grows c.in_ok-arrival.ensures.crosses h) c.comes.ensures

pub crosses-returns-in-Lost : goal.crosses-returns-in-Lost
crosses-returns-in-Lost t c =
    if_end c.branches.result _ _ (λ address left h. came_later c.args.self.now c.args.table.now c.cross.new.table c.in_ok-arrival.ensures.grows c.args.run.now address left h) c.branches.ensures

pub branches-returns : goal.branches-returns
branches-returns t c =
    if_end c.crosses.result _ _
    (λ address left h. came_told c.args.self.now c.args.table.now c.tell_tests.new.table c.args.run.now c.tell_tests.new.run c.in_ok-tell_tests.ensures address left h) c.crosses.ensures
