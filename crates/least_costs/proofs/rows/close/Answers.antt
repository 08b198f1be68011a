use Rattle.std.proofs.Common.{length, subst}
use Rattle.least_costs.specs.Rows.{Swept}
use Rattle.least_costs.proofs.RowLemmas.{closed_after}
use Rattle.least_costs.proofs.rows.close.Goals as goal

pub loop-preserved : goal.loop-preserved
loop-preserved c = record {
  len = c.sweep.ensures.len;
  sound = λ stock limits tree whole lifts h. c.sweep.ensures.swept.sound stock limits tree whole lifts (c.loop.invariant.sound stock limits tree whole lifts h);
  lower = λ r n h. c.sweep.ensures.swept.lower r n (c.loop.invariant.lower r n h);
  room = c.sweep.ensures.room;
}

pub returns-clause-closed : goal.returns-clause-closed
returns-clause-closed c =
    closed_after _ _ _ _ c.loop.invariant.sound c.loop.invariant.lower
    (subst (λ b. Swept c.args.chains.now (length c.args.chains.now) b c.loop.row.items c.sweep.new.row.items) c.loop-test.false c.sweep.ensures.swept)
