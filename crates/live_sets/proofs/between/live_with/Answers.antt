use Rattle.std.proofs.Common.{arith, ◌∙◌, ap, length, List, ℕ}
use Rattle.std.proofs.lemmas.List.{length-set}
use Rattle.form_model.specs.Live.{regs_of}
use Rattle.word_fit.specs.Steps.{step_operation}
use Rattle.live_sets.proofs.Slices.{next_live, next_sets}
use Rattle.live_sets.proofs.between.live_with.Goals as goal

pub loop-index-preserved : goal.loop-index-preserved
loop-index-preserved c = record {
  within = omega arith;
  long = ap (λ (z : List ℕ). length z) c.set.ensures ∙ length-set c.loop-index.lives _ c.loop-index.live ∙ c.loop-index.invariant.long;
  live = next_live (step_operation c.args.machine.now.pool.now c.args.machine.now.patterns.now) c.args.groups.now c.loop-index.index _ _ _ _ (regs_of c.args.after) c.loop-index-test.true c.loop-index.invariant.within
      c.index-groups-index.is c.as_slice.ensures c.live_between-live.ensures c.loop-index.invariant.live;
  done = next_sets (step_operation c.args.machine.now.pool.now c.args.machine.now.patterns.now) c.args.groups.now c.loop-index.index _ _ c.loop-index.lives c.set.new.self c.loop-index.live (regs_of c.args.after) c.loop-index-test.true c.loop-index.invariant.within
      c.loop-index.invariant.long c.index-groups-index.is c.as_slice.ensures c.set.ensures c.loop-index.invariant.live c.loop-index.invariant.done;
}
