use Rattle.std.proofs.Common.{◌≡◌, ◌++◌, drop}
use Rattle.std.specs.Prelude.{filter}
use Rattle.net_model.specs.Flags.{flag_at}
use Rattle.ctl_bdd.proofs.places.with_flag.Given as goal

abbrev pub invariant-loop-net : goal.invariant-loop-net
invariant-loop-net l = l.those ++ filter (flag_at l.flags) (drop l.net-index l.nets) ≡ filter (flag_at l.flags) l.nets
