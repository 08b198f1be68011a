-- Words and names.
use Rattle.std.proofs.Common.{◌≡◌, ℕ, zero, suc, List, [], ◌∷◌, length, take, drop, String, string_bytes, refl, ap, arith}
use Rattle.std.specs.declared.alloc.Global.{Global}
use Rattle.record_core.specs.Words.{command_of, name_in, pair_command, texts_of}

texts_taken : (n : ℕ) (words : List (String Global)) → texts_of (take n words) ≡ take n (texts_of words)
texts_taken zero words = refl
texts_taken (suc n) [] = refl
texts_taken (suc n) (word ∷ words) = ap (λ (rest : List (List ℕ)). string_bytes word ∷ rest) (texts_taken n words)

-- the names are some of the words after the first
pub names_from : (n : ℕ) (words : List (String Global)) → texts_of (take n (drop 1 words)) ≡ take n (drop 1 (texts_of words))
names_from n [] = texts_taken n []
names_from n (word ∷ words) = texts_taken n words

-- three words ask for the command that the first names
pub three_words : (words : List (String Global)) → length words ≡ 3 → command_of (texts_of words) ≡ pair_command (name_in words 0)
three_words [] three = absurd (omega arith)
three_words (a ∷ []) three = absurd (omega arith)
three_words (a ∷ b ∷ []) three = absurd (omega arith)
three_words (a ∷ b ∷ c ∷ []) three = refl
three_words (a ∷ b ∷ c ∷ d ∷ words) three = absurd (omega arith)
