use Rattle.std.proofs.Common.{take}
use Rattle.bit_bdd.specs.Diagrams.{Extends}
use Rattle.form_set.specs.Inner.Adding.{IsGreatestReach}
use Rattle.transfer_set.specs.Rows.{row_patterns}
use Rattle.form_set.proofs.listing.reach_of.Given as goal

abbrev pub invariant-loop-number : goal.invariant-loop-number
invariant-loop-number l = record {
  grows : Extends l.initial.book l.book;
  reach : IsGreatestReach l.machine.checked.now.netlist (take l.number (row_patterns l.machine.pool.now l.machine.patterns.now.rows)) l.reach;
}
