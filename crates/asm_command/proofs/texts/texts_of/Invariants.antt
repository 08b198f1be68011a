use Rattle.std.proofs.Common.{◌≡◌, ◌≤◌, length, take}
use Rattle.asm_command.specs.Inner.Tables.{row_texts}
use Rattle.asm_command.proofs.texts.texts_of.Given as goal

abbrev pub invariant-loop-number : goal.invariant-loop-number
invariant-loop-number l = record {
  within : l.number ≤ length l.patterns.rows;
  texts : l.texts.items ≡ row_texts (take l.number l.patterns.rows);
}
