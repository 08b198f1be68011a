use Rattle.std.proofs.Common.{◌≡◌, length}
use Rattle.live_sets.specs.Reading.{AreSeen, model_of_location}
use Rattle.live_sets.proofs.reads.seen_table.Given as goal

abbrev pub invariant-loop-id : goal.invariant-loop-id
invariant-loop-id l = record {
  long : length l.flags ≡ l.id;
  seen : AreSeen l.pool l.setting (model_of_location l.location) l.flags;
}
