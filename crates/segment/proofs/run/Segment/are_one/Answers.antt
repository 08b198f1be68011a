use Rattle.segment.proofs.Agreement.{if_yes}
use Rattle.segment.proofs.Copying.{alike_equal}
use Rattle.segment.proofs.run.Segment.are_one.Goals as goal

pub returns : goal.returns
returns c =
    if_yes c.are_one.result _ _ (λ yes alike e. alike_equal c.args.table.now c.args.facts.now c.args.a c.args.b (alike e)) c.are_one.ensures
