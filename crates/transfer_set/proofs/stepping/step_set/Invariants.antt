use Rattle.std.proofs.Common.{◌≡◌, ℕ, ◌<◌, length, take}
use Rattle.bit_bdd.specs.Diagrams.{Extends, has_word}
use Rattle.transfer_set.specs.Inner.Stepping.{any_step}
use Rattle.transfer_set.proofs.stepping.step_set.Given as goal

abbrev pub invariant-loop-entry : goal.invariant-loop-entry
invariant-loop-entry l = record {
  grows : Extends l.initial.book l.book;
  within : l.words < length l.book.nodes;
  words : (word : ℕ) → has_word l.book l.words word ≡ any_step l.initial.book l.pool l.counter (take l.entry-index l.entries) word;
}
