use Rattle.std.proofs.Common.{◌≢◌, ◌+◌, ◌*◌, length}
use Rattle.net_check.specs.Inner.Walk.{IsWalk, Later, stage_at, work}
use Rattle.net_check.specs.declared.walk.Stage.TheVariants.{New}
use Rattle.net_check.proofs.walk.place.Given as goal

abbrev pub invariant-loop-top : goal.invariant-loop-top
invariant-loop-top l = record {
  kept : IsWalk l.graph l.walk.stages l.walk.path l.walk.order;
  later : Later l.fn.walk.stages l.walk.stages;
  here : stage_at l.walk.stages l.root ≢ New;
}

abbrev pub decreases-loop-top : goal.decreases-loop-top
decreases-loop-top l = 2 * work l.graph l.walk.stages + length l.walk.path
