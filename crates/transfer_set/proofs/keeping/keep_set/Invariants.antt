use Rattle.std.proofs.Common.{◌≡◌, ℕ, ◌<◌, ◌&&◌, length, take}
use Rattle.bit_bdd.specs.Diagrams.{Extends, has_word}
use Rattle.transfer_set.specs.Inner.Entries.{keeps_all}
use Rattle.transfer_set.proofs.keeping.keep_set.Given as goal

abbrev pub invariant-loop-entry : goal.invariant-loop-entry
invariant-loop-entry l = record {
  grows : Extends l.initial.book l.book;
  within : l.left < length l.book.nodes;
  words : (word : ℕ) → has_word l.book l.left word ≡ (has_word l.initial.book l.legal word && keeps_all l.initial.book (take l.entry-index l.entries) l.storage word);
}
