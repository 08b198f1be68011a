use Rattle.std.proofs.Common.{rules}
use Rattle.rec_io.proofs.WrittenLemmas.{Takes-take}
use Rattle.rec_io.proofs.sink.put_all.Goals as goal

pub loop-done-preserved : goal.loop-done-preserved
loop-done-preserved g c = record {
  within = search rules;
  calm = search rules;
  taken = Takes-take _ _ _ _ _ _ c.loop-done.invariant.taken c.in_ok-done.ensures.took;
}
