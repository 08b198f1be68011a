use Rattle.bit_bdd.specs.Diagrams.{Extends}
use Rattle.form_set.specs.Inner.PatternIds.{ids_pattern}
use Rattle.form_set.specs.Words.{AreKept, IsSetOf, KeepsOthers}
use Rattle.form_set.proofs.words.kept_registers.Given as goal

abbrev pub invariant-loop-id : goal.invariant-loop-id
invariant-loop-id l = record {
  grows : Extends l.initial.book l.book;
  words : IsSetOf l.book (KeepsOthers l.machine.checked.now.netlist (ids_pattern l.machine.pool.now l.ids) l.kept.registers) l.kept.words;
  are : AreKept l.machine.checked.now.netlist (ids_pattern l.machine.pool.now l.ids) l.id l.kept.registers;
}
