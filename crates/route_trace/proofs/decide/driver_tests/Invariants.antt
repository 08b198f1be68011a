use Rattle.std.proofs.Common.{ℕ, take}
use Rattle.ctl_bdd.specs.Bits.{number_at}
use Rattle.route_trace.specs.Inner.Gates.{DriverTests}
use Rattle.route_trace.specs.Inner.Routing.{AllTests}
use Rattle.route_trace.specs.Inner.Tests.{sets_in}
use Rattle.route_trace.proofs.decide.driver_tests.Given as goal

abbrev pub invariant-loop-driver : goal.invariant-loop-driver
invariant-loop-driver l = record {
  sets : AllTests l.book l.tests;
  tests : (word : ℕ) → DriverTests l.book word (λ n. number_at l.book (sets_in l.controls.bits n) word) l.tests (take l.driver-index l.drivers);
}
