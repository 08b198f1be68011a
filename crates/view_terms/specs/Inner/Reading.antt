-- A term from the front of a text, step by step.
use Rattle.std.specs.Prelude.{ℕ, zero, suc, ◌==◌, if◌then◌else◌, ◌≡◌, List, [], ◌∷◌, length, take_while, drop, Option, Some, None, Result, Ok, Err}
use Rattle.lexing.specs.Bytes.{is_name_byte}
use Rattle.text_lines.specs.Fields.{is_name, number_of, ◌>>=◌}
use Rattle.view_terms.specs.declared.stop.Stop.{Stop}
use Rattle.view_terms.specs.declared.stop.Stop.TheVariants.{Form, Memory}
use Rattle.view_terms.specs.Terms.{TermModel, name, number, constant, one, two, three, max_levels}

-- ---- what a reader gives

-- nothing is of the form, or memory ran out
abbrev pub StopsAs : {V : Type 0} → Option V → Stop → Type 0
StopsAs told Form = told ≡ None
StopsAs told Memory = Unit {0}

-- what a reader returned, as `see` shows it, is what is told
abbrev pub Gives : {V X : Type 0} → (X → V) → Option V → Result X Stop → Type 0
Gives see told (Ok x) = told ≡ Some (see x)
Gives see told (Err stop) = StopsAs told stop

-- ---- from the front of a text

-- the first of two readings, where it gives something
abbrev pub when : {A B : Type 0} → Option A → (A → Option B) → Option B → Option B
when None f other = other
when (Some x) f other = f x

-- the bytes that come first that a name or a number can have, and what stands behind them
abbrev pub word_in : List ℕ → List ℕ
word_in text = take_while is_name_byte text

abbrev pub behind_word : List ℕ → List ℕ
behind_word text = drop (length (word_in text)) text

-- what stands behind the first byte, where that is the mark
abbrev pub behind : ℕ → List ℕ → Option (List ℕ)
behind mark [] = None
behind mark (b ∷ bs) = if b == mark then Some bs else None

-- a term and what stands behind it
abbrev pub Found : Type 0
Found = TermModel × List ℕ

-- the width behind `#`
unfoldable pub constant_at : List ℕ → List ℕ → Option Found
constant_at word text =
    number_of word >>= λ v. number_of (word_in text) >>= λ w. Some (constant v w, behind_word text)

unfoldable pub bare_at : List ℕ → List ℕ → Option Found
bare_at word text = number_of word >>= λ v. Some (number v, text)

unfoldable pub leaf_at : List ℕ → List ℕ → Option Found
leaf_at word text =
    if is_name word then Some (name word, text)
    else when (behind 35 text) (constant_at word) (bare_at word text)

-- a term behind a comma, and one with its closing parenthesis
unfoldable pub next_operand : (List ℕ → Option Found) → List ℕ → Option Found
next_operand term text = behind 44 text >>= term

unfoldable pub last_operand : (List ℕ → Option Found) → List ℕ → Option Found
last_operand term text =
    next_operand term text >>= λ c. behind 41 c.1 >>= λ end. Some (c.0, end)

-- the terms of a word, behind its opening parenthesis
unfoldable pub called : (List ℕ → Option Found) → List ℕ → List ℕ → Option Found
called term word text =
    if is_name word then (term text >>= λ a.
    when (behind 41 a.1) (λ end. Some (one word a.0, end)) (next_operand term a.1 >>= λ b.
    when (behind 41 b.1) (λ end. Some (two word a.0 b.0, end)) (last_operand term b.1 >>= λ c.
    Some (three word a.0 b.0 c.0, c.1))))
    else None

-- a term with at most so many levels of parentheses
unfoldable pub term_at : ℕ → List ℕ → Option Found
term_at zero text = leaf_at (word_in text) (behind_word text)
term_at (suc levels) text =
    when (behind 40 (behind_word text)) (called (term_at levels) (word_in text))
    (leaf_at (word_in text) (behind_word text))

-- a term that all of a text is
abbrev pub only_found : Found → Option TermModel
only_found found = if length found.1 == 0 then Some found.0 else None

unfoldable pub whole_term : List ℕ → Option TermModel
whole_term text = term_at max_levels text >>= only_found
