use Rattle.std.proofs.Common.{ℕ, take}
use Rattle.bit_bdd.specs.Diagrams.{Extends}
use Rattle.ctl_bdd.specs.Bits.{number_at}
use Rattle.route_trace.specs.Inner.Gates.{RowTests}
use Rattle.route_trace.specs.Inner.Routing.{AllTests}
use Rattle.route_trace.proofs.decide.row_tests.Given as goal

abbrev pub invariant-loop-row : goal.invariant-loop-row
invariant-loop-row l = record {
  book : Extends l.initial.book l.book;
  sets : AllTests l.book l.tests;
  tests : (word : ℕ) → RowTests l.book word (number_at l.initial.book l.bits word) l.tests (take l.row-index l.rows);
}
