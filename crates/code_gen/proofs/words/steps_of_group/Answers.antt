use Rattle.std.proofs.Common.{◌≡◌, ◌∙◌, ℕ, zero, suc, List, [], ◌∷◌, None, ap, refl, slice_get, sym}
use Rattle.std.specs.List.{slice_index_or}
use Rattle.code_gen.specs.Inner.Coded.{no_block}
use Rattle.compaction.specs.declared.packer.PackedBlock.{PackedBlock}
use Rattle.code_gen.proofs.words.steps_of_group.Goals as goal

past : {X : Type 0} (xs : List X) (k : ℕ) (d : X) → slice_get xs k ≡ None → slice_index_or xs k d ≡ d
past [] k d e = refl
past (x ∷ xs) zero d e = absurd cc
past (x ∷ xs) (suc k) d e = past xs k d e

pub returns-in-None-get : goal.returns-in-None-get
returns-in-None-get c =
    sym (past c.in-Some.block.now.groups c.args.at [] (sym c.in-None-get.ensures))
    ∙ ap (λ (block : PackedBlock). slice_index_or block.groups c.args.at []) (c.in-Some.ensures.lookup.3.1 no_block)
