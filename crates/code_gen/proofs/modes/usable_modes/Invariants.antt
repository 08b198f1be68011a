use Rattle.std.proofs.Common.{◌≡◌, length}
use Rattle.code_gen.proofs.ByMode.{TellsUsable}
use Rattle.code_gen.proofs.modes.usable_modes.Given as goal

abbrev pub invariant-loop-mode : goal.invariant-loop-mode
invariant-loop-mode l = record {
  long : length l.usable.items ≡ l.mode;
  told : TellsUsable l.netlist l.list l.usable.items l.mode;
}
