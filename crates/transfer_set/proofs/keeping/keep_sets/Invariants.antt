use Rattle.bit_bdd.specs.Diagrams.{Extends}
use Rattle.transfer_set.specs.Inner.Entries.{AreLeft}
use Rattle.transfer_set.proofs.keeping.keep_sets.Given as goal

abbrev pub invariant-loop-storage : goal.invariant-loop-storage
invariant-loop-storage l = record {
  grows : Extends l.initial.book l.book;
  left : AreLeft l.initial.book l.book l.legal l.entries l.storage l.sets;
}
