use Rattle.std.proofs.Common.{◌≡◌, take, All}
use Rattle.transfer_set.specs.Rows.{ShowsMove, entries_of}
use Rattle.transfer_set.proofs.row.rows.Given as goal

abbrev pub invariant-loop-entry : goal.invariant-loop-entry
invariant-loop-entry l = record {
  entries : entries_of l.rows.items ≡ take l.entry-index l.entries;
  shows : All (ShowsMove l.checked.netlist l.pool) l.rows.items;
}
