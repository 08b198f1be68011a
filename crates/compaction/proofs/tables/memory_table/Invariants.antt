use Rattle.std.proofs.Common.{◌≡◌, length}
use Rattle.compaction.specs.Tables.{AreReaders}
use Rattle.compaction.proofs.tables.memory_table.Given as goal

abbrev pub invariant-loop-id : goal.invariant-loop-id
invariant-loop-id l = record {
  long : length l.flags ≡ l.id;
  readers : AreReaders l.pool l.flags;
}
