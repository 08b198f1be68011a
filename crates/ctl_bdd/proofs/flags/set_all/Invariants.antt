use Rattle.std.proofs.Common.{◌≡◌, ℕ, ◌||◌, ◌<◌, nat_eq, length, drop}
use Rattle.std.specs.List.{AllByRecursion, list_any}
use Rattle.net_model.specs.Flags.{flag_at}
use Rattle.ctl_bdd.proofs.flags.set_all.Given as goal

abbrev pub invariant-loop-net : goal.invariant-loop-net
invariant-loop-net l = record {
  long : length l.flags ≡ length l.initial.flags;
  inside : AllByRecursion (λ n. n < length l.initial.flags) (drop l.net-index l.nets);
  flags : (n : ℕ) → (flag_at l.flags n || list_any (nat_eq n) (drop l.net-index l.nets)) ≡ (flag_at l.initial.flags n || list_any (nat_eq n) l.nets);
}
