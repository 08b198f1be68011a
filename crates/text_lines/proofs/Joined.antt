-- The length of lines that stand behind one another.
use Rattle.std.proofs.Common.{◌≡◌, ℕ, ◌+◌, List, [], ◌∷◌, ◌++◌, length, ap, ◌∙◌, length-append, arith}
use Rattle.std.specs.List.{concat}
use Rattle.std.proofs.lemmas.List.{append-nil}

pub concat-snoc : (xs : List (List ℕ)) (line : List ℕ) → length (concat (xs ++ (line ∷ []))) ≡ length (concat xs) + length line
concat-snoc [] line = ap length (append-nil line) ∙ omega arith
concat-snoc (x ∷ xs) line = length-append x (concat (xs ++ (line ∷ []))) ∙ omega (arith, concat-snoc xs line, length-append x (concat xs))
