use Rattle.std.proofs.Common.{◌≡◌, ℕ, ◌++◌, map, drop}
use Rattle.net_model.proofs.controls.push_driver_enables.Given as goal

abbrev pub invariant-loop-driver : goal.invariant-loop-driver
invariant-loop-driver l =
    l.nets ++ map (λ (driver : ℕ × ℕ). driver.1) (drop l.driver-index l.drivers) ≡ l.fn.nets ++ map (λ (driver : ℕ × ℕ). driver.1) l.drivers
