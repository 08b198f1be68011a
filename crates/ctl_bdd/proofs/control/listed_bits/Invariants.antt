use Rattle.std.proofs.Common.{◌≡◌, ℕ, map}
use Rattle.std.specs.Prelude.{filter}
use Rattle.ctl_bdd.specs.Places.{is_static_control, numbers_below}
use Rattle.ctl_bdd.specs.Tables.{sets_at}
use Rattle.ctl_bdd.proofs.control.listed_bits.Given as goal

abbrev pub invariant-loop-at : goal.invariant-loop-at
invariant-loop-at l = l.bits ≡ map (λ (n : ℕ). (n, sets_at l.table n)) (filter (is_static_control l.netlist) (numbers_below l.at))
