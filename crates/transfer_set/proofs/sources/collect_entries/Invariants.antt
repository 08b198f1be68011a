use Rattle.std.proofs.Common.{◌≡◌, ℕ, ◌^◌, ◌<◌, ◌&&◌, length, nat_lt}
use Rattle.bit_bdd.specs.Diagrams.{Extends, has_word}
use Rattle.net_model.specs.Transfers.{transfer_at}
use Rattle.transfer_set.specs.Inner.Entries.{HaveWords, AreKnown, AreWhole, list_if, transfers_under}
use Rattle.transfer_set.specs.Inner.Sources.{changes}
use Rattle.transfer_set.proofs.sources.collect_entries.Given as goal

abbrev pub invariant-loop-id : goal.invariant-loop-id
invariant-loop-id l = record {
  grows : Extends l.initial.book l.book;
  words : HaveWords l.book l.out;
  moves : (n word : ℕ) → word < 2 ^ l.initial.book.bits → transfers_under l.book l.source.pool.now l.out n word ≡ list_if (nat_lt n l.id && has_word l.initial.book l.source.controls.now.legal word) (changes (transfer_at l.source.checked.now.netlist word n));
  whole : AreWhole l.source.checked.now.netlist l.source.pool.now l.book l.out;
  known : AreKnown (length l.source.pool.now) l.out;
}
