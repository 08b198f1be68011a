use Rattle.std.proofs.Common.{◌≡◌, ◌<◌, ℕ, true, length}
use Rattle.net_model.specs.Order.{position_of}
use Rattle.bit_bdd.specs.Diagrams.{Extends}
use Rattle.net_model.specs.Flags.{flag_at}
use Rattle.ctl_bdd.specs.Tables.{AreBits, IsBitTable, sets_at}
use Rattle.ctl_bdd.proofs.table.table_of.Given as goal

abbrev pub invariant-loop-id : goal.invariant-loop-id
invariant-loop-id l = record {
  long : length l.table ≡ length l.checked.netlist.nets;
  grows : Extends l.initial.book l.book;
  table : IsBitTable l.book l.table;
  done : (m : ℕ) → position_of l.checked.order m < l.id-index → flag_at l.needed m ≡ true → AreBits l.checked.netlist l.book m (sets_at l.table m);
}
