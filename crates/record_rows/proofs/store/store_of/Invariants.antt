use Rattle.std.proofs.Common.{ℕ, ◌≡◌, ◌+◌, ◌<◌, ◌^◌, length, slice_index, drop}
use Rattle.src_model.specs.Meaning.{cell_count}
use Rattle.record_rows.specs.Inner.Stores.{AreGiven}
use Rattle.record_rows.proofs.store.store_of.Given as goal

abbrev pub invariant-loop-var : goal.invariant-loop-var
invariant-loop-var l = record {
  longer : length l.cells + cell_count (drop l.var-index l.vars) ≡ cell_count l.vars;
  words : (cell : ℕ) → slice_index l.cells cell < 2 ^ l.width;
  given : AreGiven l.width l.given l.cells;
}
