use Rattle.std.proofs.Common.{◌≡◌, ◌≢◌, ℕ, ◌<◌, []}
use Rattle.net_check.specs.Inner.Walk.{IsWalk, stage_at}
use Rattle.net_check.specs.declared.walk.Stage.TheVariants.{New}
use Rattle.net_check.proofs.walk.sort.Given as goal

abbrev pub invariant-loop-root : goal.invariant-loop-root
invariant-loop-root l = record {
  kept : IsWalk l.graph l.walk.stages l.walk.path l.walk.order;
  empty : l.walk.path ≡ [];
  done : (m : ℕ) → m < l.root → stage_at l.walk.stages m ≢ New;
}
