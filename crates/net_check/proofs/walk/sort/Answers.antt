use Rattle.std.proofs.Common.{arith}
use Rattle.net_check.proofs.Ends.{walk_start, ordering_of}
use Rattle.net_check.proofs.walk.sort.Goals as goal

pub loop-root-init : goal.loop-root-init
loop-root-init c = record {
  kept = walk_start _ _ _ _ c.in_ok-stages.ensures c.new.ensures c.new-2.ensures;
  empty = c.new.ensures;
  done = λ m h. absurd (omega arith);
}

pub returns : goal.returns
returns c = ordering_of _ _ _ _ c.loop-root.invariant.kept c.loop-root.invariant.empty (λ m h. c.loop-root.invariant.done m (omega (arith, h, c.loop-root-test.false)))
