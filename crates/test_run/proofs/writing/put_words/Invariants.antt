use Rattle.std.proofs.Common.{◌≡◌, ◌++◌, drop}
use Rattle.test_run.specs.Text.{word_lines}
use Rattle.test_run.proofs.writing.put_words.Given as goal

abbrev pub invariant-loop-address : goal.invariant-loop-address
invariant-loop-address l = l.out.items ++ word_lines l.bytes l.address (drop l.address l.words) ≡ l.initial.out.items ++ word_lines l.bytes 0 l.words
