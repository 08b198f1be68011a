use Rattle.std.proofs.Common.{ℕ, ◌≡◌, ◌+◌, ◌<◌, ◌^◌, length, slice_index}
use Rattle.record_rows.specs.Inner.Stores.{AreGiven}
use Rattle.record_rows.proofs.store.push_cells.Given as goal

abbrev pub invariant-loop : goal.invariant-loop
invariant-loop l = record {
  longer : length l.cells ≡ length l.fn.cells + l.counter;
  words : (cell : ℕ) → slice_index l.cells cell < 2 ^ l.width;
  given : AreGiven l.width l.given l.cells;
}
