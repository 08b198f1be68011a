use Rattle.std.proofs.Common.{◌∙◌, ap, slice_index}
use Rattle.std.specs.Option.{unwrap_or}
use Rattle.std.proofs.lemmas.Option.{unwrap_or-slice_get}
use Rattle.code_gen.specs.Inner.Coded.{no_block}
use Rattle.compaction.specs.declared.packer.PackedBlock.{PackedBlock}
use Rattle.code_gen.proofs.words.word_of_group.Goals as goal

pub returns-in-Some : goal.returns-in-Some
returns-in-Some c =
    c.unwrap_or.ensures
    ∙ ap (λ o. unwrap_or o 0) (c.copied.ensures ∙ c.get-in-Some.ensures)
    ∙ unwrap_or-slice_get c.in-Some.block.now.words c.args.at 0
    ∙ ap (λ (block : PackedBlock). slice_index block.words c.args.at) (c.in-Some.ensures.lookup.3.1 no_block)
