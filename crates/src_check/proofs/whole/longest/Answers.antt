use Rattle.src_check.proofs.Lengths.{longest_next, longest_end}
use Rattle.src_check.proofs.whole.longest.Goals as goal

pub loop-var-preserved : goal.loop-var-preserved
loop-var-preserved c = rw (c.max-len.ensures, c.unwrap_or.ensures) (longest_next c.args.vars.now _ c.var-item.result _ _ c.loop-var-test.true c.var-item.is c.loop-var.invariant)

pub returns : goal.returns
returns c = longest_end _ _ _ _ c.loop-var-test.false c.loop-var.invariant
