-- The text of a summary.
use Rattle.std.specs.Prelude.{ℕ, List, [], ◌∷◌, codes, slice_index}
use Rattle.std.specs.Fmt.{decimal}
use Rattle.std.specs.List.{concat, flat_map}
use Rattle.code_model.specs.declared.image.Place.{Place}

-- make N, words COUNT, cycles C, checkpoints K
abbrev pub summary_head : ℕ → ℕ → ℕ → ℕ → List ℕ
summary_head number words cycles checkpoints = concat (
    codes "make " ∷ decimal number ∷ codes "\nwords " ∷ decimal words ∷ codes "\ncycles " ∷ decimal cycles
    ∷ codes "\ncheckpoints " ∷ decimal checkpoints ∷ codes "\n" ∷ [])

-- NAME=VALUE, as the memory holds it
unfoldable pub variable_line : List ℕ → Place → List ℕ
variable_line cells place =
    concat (place.name ∷ codes "=" ∷ decimal (slice_index cells place.address) ∷ codes "\n" ∷ [])

-- the head, a line for each variable, and done
abbrev pub summary_text : ℕ → ℕ → ℕ → ℕ → List Place → List ℕ → List ℕ
summary_text number words cycles checkpoints places cells = concat (
    summary_head number words cycles checkpoints ∷ flat_map (variable_line cells) places ∷ codes "done\n" ∷ [])
