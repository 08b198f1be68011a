use Rattle.std.proofs.Common.{◌≡◌, ℕ, ◌≤◌, length, drop}
use Rattle.net_model.specs.Value.{case_value}
use Rattle.bit_bdd.specs.Diagrams.{Extends}
use Rattle.ctl_bdd.specs.Bits.{AreSets, number_at}
use Rattle.ctl_bdd.specs.Tables.{numbers_at}
use Rattle.ctl_bdd.proofs.gates.case_bits.Given as goal

abbrev pub decreases-loop-left : goal.decreases-loop-left
decreases-loop-left l = l.left

abbrev pub invariant-loop-left : goal.invariant-loop-left
invariant-loop-left l = record {
  below : l.left ≤ length l.case.rows.now;
  grows : Extends l.initial.book l.book;
  sets : AreSets l.book l.out;
  long : length l.out ≡ l.case.width;
  number : (word : ℕ) → number_at l.book l.out word ≡ case_value (numbers_at l.initial.book l.table word) (number_at l.initial.book l.sel word) (drop l.left l.case.rows.now) l.case.rest;
}
