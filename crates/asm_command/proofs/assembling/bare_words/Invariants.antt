use Rattle.std.proofs.Common.{◌≡◌, map, take}
use Rattle.asm_command.specs.Assembled.{bare_word}
use Rattle.asm_command.proofs.assembling.bare_words.Given as goal

abbrev pub invariant-loop-word : goal.invariant-loop-word
invariant-loop-word l = l.bare ≡ map bare_word (take l.word-index l.words)
