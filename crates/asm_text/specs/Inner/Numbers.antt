-- A table from the texts of patterns' transfers to their numbers.
use Rattle.std.specs.Prelude.{◌≡◌, ℕ, ◌<◌, List, Option, Some, None}
use Rattle.std.specs.Map.{lookup}
use Rattle.std.proofs.Common.{Bor}
use Rattle.rec_bits.specs.Faults.{same_name}
use Rattle.asm_text.specs.Lines.{text_of}

-- what the table has for a text
abbrev pub number_in : List (Bor (List ℕ) × ℕ) → List ℕ → Option ℕ
number_in entries text = lookup (λ key. same_name text key.now) entries

-- the table has the texts of so many patterns, each with the number of a pattern that has it
pub record HasNumbers (entries : List (Bor (List ℕ) × ℕ)) (texts : List (List ℕ)) (count : ℕ) : Type 0 where
  pub told : (text : List ℕ) (number : ℕ) → number_in entries text ≡ Some number →
      (number < count) × (text_of texts number ≡ text)
  pub all : (number : ℕ) → number < count → number_in entries (text_of texts number) ≡ None → ⊥
