use Rattle.std.proofs.Common.{◌∙◌, map, sym}
use Rattle.std.proofs.lemmas.List.{append-nil}
use Rattle.asm_words.specs.Inner.Wanted.{kept_sets, number_set}
use Rattle.asm_words.proofs.Held.{kept_more}
use Rattle.asm_words.proofs.asking.wanted_sets.Goals as goal

pub loop-storage-init : goal.loop-storage-init
unfolding kept_sets
loop-storage-init c = c.in_ok-sets.ensures ∙ sym (append-nil (map (number_set c.args.patterns.now) c.args.numbers.now))

pub loop-storage-preserved : goal.loop-storage-preserved
loop-storage-preserved c =
    kept_more c.args.patterns.now c.args.numbers.now c.loop-storage.storage (map (number_set c.args.patterns.now) c.args.numbers.now) c.loop-storage.sets c.add_storage.new.sets
    c.loop-storage.invariant c.in_ok-add_storage.ensures
