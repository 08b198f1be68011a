use Rattle.std.proofs.Common.{◌≡◌, length}
use Rattle.image_items.specs.Reading.{numbers_from, fields_of}
use Rattle.image_items.proofs.Lists.{with_front}
use Rattle.image_items.proofs.list.numbers_of.Given as goal

-- the numbers so far, and those of what is left, are the numbers of the whole
abbrev pub invariant-loop-field : goal.invariant-loop-field
invariant-loop-field l = numbers_from 0 (fields_of 44 l.text) ≡ with_front l.numbers (numbers_from l.from (fields_of 44 l.rest))

abbrev pub decreases-loop-field : goal.decreases-loop-field
decreases-loop-field l = length l.rest
