use Rattle.std.proofs.Common.{◌≡◌, length}
use Rattle.code_gen.specs.Inner.Planning.{AreReadyAll}
use Rattle.code_gen.proofs.ByMode.{TellsPassages}
use Rattle.code_gen.proofs.modes.passages.Given as goal

abbrev pub invariant-loop-mode : goal.invariant-loop-mode
invariant-loop-mode l = record {
  ready : AreReadyAll l.machines l.books;
  long : length l.passages.items ≡ l.mode;
  told : TellsPassages l.netlist l.machines l.list l.passages.items l.mode;
}
