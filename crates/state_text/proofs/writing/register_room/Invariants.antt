use Rattle.std.proofs.Common.{◌≡◌, ◌+◌, drop}
use Rattle.state_text.specs.Shown.{register_room}
use Rattle.state_text.proofs.writing.register_room.Given as goal

abbrev pub invariant-loop-storage : goal.invariant-loop-storage
invariant-loop-storage l = l.room + register_room (drop l.storage-index l.storages) ≡ register_room l.storages
