use Rattle.std.proofs.Common.{◌≡◌, ℕ, ◌+◌, ◌<◌, ◌&&◌, not, nat_lt, length, drop}
use Rattle.rec_bits.specs.Operators.{bit_of}
use Rattle.net_model.specs.Clock.{enabled_count}
use Rattle.bit_bdd.specs.Diagrams.{Extends, has_word}
use Rattle.ctl_bdd.specs.Tables.{numbers_at}
use Rattle.ctl_bdd.proofs.legal.bus_legal.Given as goal

abbrev pub invariant-loop-driver : goal.invariant-loop-driver
invariant-loop-driver l = record {
  grows : Extends l.initial.book l.book;
  left_in : l.left < length l.book.nodes;
  seen_in : l.seen < length l.book.nodes;
  words : (word : ℕ) →
      (has_word l.book l.left word && not (nat_lt 1 (bit_of (has_word l.book l.seen word) + enabled_count (numbers_at l.initial.book l.table word) (drop l.driver-index l.drivers))))
      ≡ (has_word l.initial.book l.initial.left word && not (nat_lt 1 (enabled_count (numbers_at l.initial.book l.table word) l.drivers)));
}
