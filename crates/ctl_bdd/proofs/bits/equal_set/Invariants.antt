use Rattle.std.proofs.Common.{◌≡◌, ℕ, ◌<◌, length, take}
use Rattle.bit_bdd.specs.Diagrams.{Extends, has_word}
use Rattle.ctl_bdd.specs.Bits.{bools}
use Rattle.ctl_bdd.specs.Inner.Bits.{all_alike}
use Rattle.ctl_bdd.proofs.bits.equal_set.Given as goal

abbrev pub invariant-loop-i : goal.invariant-loop-i
invariant-loop-i l = record {
  grows : Extends l.initial.book l.book;
  within : l.same < length l.book.nodes;
  words : (word : ℕ) → has_word l.book l.same word ≡ all_alike (bools l.initial.book (take l.i l.a) word) (bools l.initial.book (take l.i l.b) word);
}
