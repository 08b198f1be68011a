use Rattle.asm_text.specs.Inner.Numbers.{HasNumbers}
use Rattle.asm_text.proofs.table.numbered.Given as goal

abbrev pub invariant-loop-number : goal.invariant-loop-number
invariant-loop-number l = HasNumbers l.numbers.entries l.texts l.number
