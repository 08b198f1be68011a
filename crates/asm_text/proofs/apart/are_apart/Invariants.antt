use Rattle.asm_text.proofs.Storages.{HasNames}
use Rattle.asm_text.proofs.apart.are_apart.Given as goal

abbrev pub invariant-loop-pattern : goal.invariant-loop-pattern
invariant-loop-pattern l = HasNames l.storages.keys l.texts l.patterns l.pattern-index
