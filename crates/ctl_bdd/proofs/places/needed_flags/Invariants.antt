use Rattle.std.proofs.Common.{◌≡◌, ◌<◌, ◌≤◌, ℕ, nat_eq, true, length}
use Rattle.std.specs.List.{list_any}
use Rattle.net_model.specs.CheckedRules.{is_control}
use Rattle.net_model.specs.Depends.{named_by}
use Rattle.net_model.specs.Order.{position_of}
use Rattle.net_model.specs.Symbolic.{all_nets}
use Rattle.net_model.specs.Flags.{flag_at}
use Rattle.ctl_bdd.proofs.places.needed_flags.Given as goal

abbrev pub decreases-loop-left : goal.decreases-loop-left
decreases-loop-left l = l.left

abbrev pub invariant-loop-left : goal.invariant-loop-left
invariant-loop-left l = record {
  below : l.left ≤ length l.checked.order;
  long : length l.flags ≡ length l.checked.netlist.nets;
  those : (n : ℕ) → list_any (nat_eq n) l.those ≡ true → flag_at l.flags n ≡ true;
  control : (n : ℕ) → n < length l.checked.netlist.nets → flag_at l.flags n ≡ true → is_control l.checked.netlist n ≡ true;
  closed : (n : ℕ) → n < length l.checked.netlist.nets → l.left ≤ position_of l.checked.order n → flag_at l.flags n ≡ true → all_nets (flag_at l.flags) (named_by l.checked.netlist n) ≡ true;
}
