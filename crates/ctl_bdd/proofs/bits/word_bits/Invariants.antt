use Rattle.std.proofs.Common.{◌≡◌, ℕ, ◌%◌, ◌^◌, length}
use Rattle.bit_bdd.specs.Diagrams.{Extends}
use Rattle.ctl_bdd.specs.Bits.{AreSets, number_at}
use Rattle.ctl_bdd.proofs.bits.word_bits.Given as goal

abbrev pub invariant-loop-bit : goal.invariant-loop-bit
invariant-loop-bit l = record {
  grows : Extends l.initial.book l.book;
  sets : AreSets l.book l.out;
  long : length l.out ≡ l.bit;
  number : (word : ℕ) → number_at l.book l.out word ≡ word % 2 ^ l.bit;
}
