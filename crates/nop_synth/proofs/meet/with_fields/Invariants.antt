use Rattle.std.proofs.Common.{◌≡◌, ℕ, ◌<◌, ◌^◌, ◌&&◌, length, take}
use Rattle.bit_bdd.specs.Diagrams.{Extends, has_word}
use Rattle.nop_synth.specs.Wanted.{has_fields}
use Rattle.nop_synth.proofs.meet.with_fields.Given as goal

abbrev pub invariant-loop-field : goal.invariant-loop-field
invariant-loop-field l = record {
  grows : Extends l.initial.book l.book;
  within : l.left < length l.book.nodes;
  words : (word : ℕ) → word < 2 ^ l.width → has_word l.book l.left word ≡ (has_word l.initial.book l.set word && has_fields (take l.field-index l.fields) word);
}
