use Rattle.std.proofs.Common.{◌≡◌, ◌++◌, drop, map}
use Rattle.code_model.specs.declared.image.Word.{Word}
use Rattle.code_model.specs.Places.{words_of}
use Rattle.code_model.proofs.image.words_of.Given as goal

abbrev pub invariant-loop-word : goal.invariant-loop-word
invariant-loop-word l = l.words ++ map (λ (w : Word). w.word) (drop l.word-index l.image.words) ≡ words_of l.image
