use Rattle.std.proofs.Common.{◌≡◌, ◌<◌, ℕ, length}
use Rattle.net_model.specs.Order.{position_of}
use Rattle.net_model.specs.Flags.{flag_at, has}
use Rattle.net_model.proofs.flags.flags_of.Given as goal

abbrev pub invariant-loop-id : goal.invariant-loop-id
invariant-loop-id l = record {
  long : length l.flags ≡ length l.netlist.nets;
  done : (m : ℕ) → position_of l.order m < l.id-index → flag_at l.flags m ≡ has l.property l.netlist m;
}
