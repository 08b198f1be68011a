use Rattle.std.proofs.Common.{◌≡◌, ◌++◌, drop}
use Rattle.code_model.specs.ImageText.{word_lines}
use Rattle.image_text.proofs.writing.put_words.Given as goal

abbrev pub invariant-loop-address : goal.invariant-loop-address
invariant-loop-address l = l.out.items ++ word_lines l.bytes l.address (drop l.address l.words) ≡ l.initial.out.items ++ word_lines l.bytes 0 l.words
