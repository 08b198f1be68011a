use Rattle.std.proofs.Common.{◌≡◌, drop}
use Rattle.net_model.specs.Symbolic.{all_nets}
use Rattle.net_model.specs.Flags.{flag_at}
use Rattle.net_model.proofs.flags.all_set.Given as goal

abbrev pub invariant-loop-net : goal.invariant-loop-net
invariant-loop-net l = all_nets (flag_at l.flags) l.nets ≡ all_nets (flag_at l.flags) (drop l.net-index l.nets)
