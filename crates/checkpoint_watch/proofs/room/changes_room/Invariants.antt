use Rattle.std.proofs.Common.{◌≡◌, ◌+◌, drop}
use Rattle.checkpoint_watch.specs.Rooms.{changes_room}
use Rattle.checkpoint_watch.proofs.room.changes_room.Given as goal

abbrev pub invariant-loop-var : goal.invariant-loop-var
invariant-loop-var l = l.room + changes_room (drop l.var-index l.vars) ≡ changes_room l.vars
