use Rattle.segment.proofs.Agreement.{if_end}
use Rattle.segment.proofs.Leading.{come_aligned}
use Rattle.mark_start.specs.declared.run.Run.{Run}
use Rattle.segment.proofs.run.Segment.comes.Goals as goal

pub returns : goal.returns
returns c =
    let run : Run = record { facts = c.args.run.now.facts; machine = c.args.arrival.known; vars = c.args.run.now.vars } in
    if_end c.meets.result _ _
    (λ address left e. come_aligned c.args.self.now c.args.table.now c.align.new.table c.meets.new.table run c.align.new.run c.args.arrival.address c.args.arrival.left address left c.in_ok-align.ensures e) c.meets.ensures
