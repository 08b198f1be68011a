use Rattle.std.proofs.Common.{◌≡◌, ℕ, map, not, length, take}
use Rattle.bit_bdd.specs.Diagrams.{Extends}
use Rattle.ctl_bdd.specs.Bits.{AreSets, bools}
use Rattle.ctl_bdd.proofs.bits.not_bits.Given as goal

abbrev pub invariant-loop-set : goal.invariant-loop-set
invariant-loop-set l = record {
  grows : Extends l.initial.book l.book;
  sets : AreSets l.book l.out;
  long : length l.out ≡ l.set-index;
  words : (word : ℕ) → bools l.book l.out word ≡ map not (bools l.initial.book (take l.set-index l.sets) word);
}
