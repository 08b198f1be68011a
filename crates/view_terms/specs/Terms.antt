-- Terms: how they are written, and which can be.
use Rattle.std.specs.Prelude.{◌≡◌, ℕ, zero, suc, ◌^◌, ◌<◌, true, List, [], ◌∷◌, codes}
use Rattle.std.specs.Fmt.{decimal}
use Rattle.std.specs.List.{concat}
use Rattle.text_lines.specs.Fields.{is_name}
use Rattle.view_terms.specs.declared.term.Term.{Term}
use Rattle.view_terms.specs.declared.term.Term.TheVariants.{Name, Number, Constant, One', Two', Three'}

-- a term as a plain value: a name, a number, a number with its width, or a word with one, two or
-- three terms
pub data TermModel : Type 0 where
  name : List ℕ → TermModel
  number : ℕ → TermModel
  constant : (value width : ℕ) → TermModel
  one : (word : List ℕ) (a : TermModel) → TermModel
  two : (word : List ℕ) (a b : TermModel) → TermModel
  three : (word : List ℕ) (a b c : TermModel) → TermModel

-- that of the code's term
abbrev pub model_of_term : Term → TermModel
model_of_term (Name n) = name n
model_of_term (Number v) = number v
model_of_term (Constant v w) = constant v w
model_of_term (One' n p a) = one n (model_of_term a)
model_of_term (Two' n p a q b) = two n (model_of_term a) (model_of_term b)
model_of_term (Three' n p a q b r c) = three n (model_of_term a) (model_of_term b) (model_of_term c)

-- a term's text: NAME, NUMBER, VALUE#WIDTH, WORD(A), WORD(A,B), WORD(A,B,C)
abbrev pub term_text : TermModel → List ℕ
term_text (name n) = n
term_text (number v) = decimal v
term_text (constant v w) = concat (decimal v ∷ codes "#" ∷ decimal w ∷ [])
term_text (one n a) = concat (n ∷ codes "(" ∷ term_text a ∷ codes ")" ∷ [])
term_text (two n a b) = concat (n ∷ codes "(" ∷ term_text a ∷ codes "," ∷ term_text b ∷ codes ")" ∷ [])
term_text (three n a b c) =
    concat (n ∷ codes "(" ∷ term_text a ∷ codes "," ∷ term_text b ∷ codes "," ∷ term_text c ∷ codes ")" ∷ [])

-- one more level of parentheses, where some are left
abbrev pub Nested : (levels : ℕ) → (ℕ → Type 0) → Type 0
Nested zero inner = ⊥
Nested (suc levels) inner = inner levels

-- its names and words are names, its numbers lie below 2^64, and at most so many parentheses nest
abbrev pub TermFits : (levels : ℕ) → TermModel → Type 0
TermFits levels (name n) = is_name n ≡ true
TermFits levels (number v) = v < 2 ^ 64
TermFits levels (constant v w) = (v < 2 ^ 64) × (w < 2 ^ 64)
TermFits levels (one n a) = Nested levels (λ l. (is_name n ≡ true) × TermFits l a)
TermFits levels (two n a b) = Nested levels (λ l. (is_name n ≡ true) × TermFits l a × TermFits l b)
TermFits levels (three n a b c) =
    Nested levels (λ l. (is_name n ≡ true) × TermFits l a × TermFits l b × TermFits l c)

-- how many parentheses nest at most
abbrev pub max_levels : ℕ
max_levels = 64

-- the bytes are a term's text
pub record SaysTerm (text : List ℕ) (term : TermModel) : Type 0 where
  pub text_is : text ≡ term_text term
  pub fits : TermFits max_levels term
