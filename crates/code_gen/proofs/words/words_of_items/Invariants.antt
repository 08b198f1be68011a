use Rattle.std.proofs.Common.{take}
use Rattle.form_model.specs.Live.{regs_of}
use Rattle.transfer_set.specs.Machines.{IsReadyFor}
use Rattle.bit_bdd.specs.Diagrams.{Extends}
use Rattle.code_gen.specs.Inner.Coded.{AreItemWords}
use Rattle.code_gen.specs.Machines.{known_netlist, known_patterns}
use Rattle.code_gen.proofs.words.words_of_items.Given as goal

abbrev pub invariant-loop-item : goal.invariant-loop-item
invariant-loop-item l = record {
  grows : Extends l.initial.book l.book;
  ready : IsReadyFor l.known.machine l.book;
  words : AreItemWords (known_netlist l.known) (known_patterns l.known) (regs_of l.kept) l.blocks (take l.item-index l.items) l.words;
}
