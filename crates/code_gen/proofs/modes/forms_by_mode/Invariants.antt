use Rattle.code_gen.specs.Inner.Planning.{AreFormsBelow, AreReadyAll}
use Rattle.code_gen.proofs.modes.forms_by_mode.Given as goal

abbrev pub invariant-loop-mode : goal.invariant-loop-mode
invariant-loop-mode l = record {
  ready : AreReadyAll l.machines l.books;
  forms : AreFormsBelow l.netlist l.machines l.mode l.list;
}
