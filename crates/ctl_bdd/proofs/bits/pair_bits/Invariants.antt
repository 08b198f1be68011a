use Rattle.std.proofs.Common.{◌≡◌, ℕ, length, take}
use Rattle.bit_bdd.specs.Diagrams.{Extends}
use Rattle.ctl_bdd.specs.Bits.{AreSets, bools}
use Rattle.ctl_bdd.specs.Inner.Bits.{pairs_of}
use Rattle.ctl_bdd.proofs.bits.pair_bits.Given as goal

abbrev pub invariant-loop-i : goal.invariant-loop-i
invariant-loop-i l = record {
  grows : Extends l.initial.book l.book;
  sets : AreSets l.book l.out;
  long : length l.out ≡ l.i;
  words : (word : ℕ) → bools l.book l.out word ≡ pairs_of l.pairing (bools l.initial.book (take l.i l.a) word) (bools l.initial.book (take l.i l.b) word);
}
