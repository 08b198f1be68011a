-- The grammars of single tokens. A token is a word and the offset of its first byte; a word is a
-- name, a number, one of the language's symbols or keys, or none of these. The grammars of a
-- symbol, a name and a number, and what stands behind or before a symbol or tells by its first
-- word.
use Rattle.std.specs.Prelude.{◌≡◌, ℕ, Bool, true, List, ◌∷◌}
use Rattle.grammar.specs.declared.words.Ident.{Ident}
use Rattle.grammar.specs.declared.words.Lexed.{Lexed}
use Rattle.grammar.specs.declared.words.Word.{Word}
use Rattle.grammar.specs.declared.words.Word.TheVariants.{Name, Number, Symbol}
use Rattle.grammar.specs.Reading.{Return, Token, Bind}

-- a sign or a reserved word
abbrev pub Sign : {S K : Type 0} → S → List (Lexed S K) → Unit {0} → Type 0
Sign s = Token (λ t u. t.word ≡ Symbol s)

abbrev pub IsName : {S K : Type 0} → List (Lexed S K) → Ident → Type 0
IsName = Token (λ t i. t ≡ record { word = Name i.name; at = i.at })

abbrev pub IsNumber : {S K : Type 0} → List (Lexed S K) → ℕ → Type 0
IsNumber = Token (λ t n. t.word ≡ Number n)

-- what stands behind a first word tells by that word
abbrev pub ByWord : {S K V : Type 0} → (Word S K → ℕ → List (Lexed S K) → V → Type 0) → List (Lexed S K) → V → Type 0
ByWord B = Bind (Token (λ t u. u ≡ t)) (λ _ t. B t.word t.at)

abbrev pub IsNothing : {T V : Type 0} → List T → V → Type 0
IsNothing ts v = ⊥

-- a sign or word, and what stands behind it
abbrev pub Behind : {S K V : Type 0} → S → (List (Lexed S K) → V → Type 0) → List (Lexed S K) → V → Type 0
Behind s X = Bind (Sign s) (λ _ u. X)

-- X and then a sign
abbrev pub Before : {S K V : Type 0} → (List (Lexed S K) → V → Type 0) → S → List (Lexed S K) → V → Type 0
Before X s = Bind X (λ _ v. Bind (Sign s) (λ _ u. Return v))

-- the first token is this symbol
pub record BeginsWith {S K : Type 0} (symbol : S) (ts : List (Lexed S K)) : Type 0 where
  pub token : Lexed S K
  pub rest : List (Lexed S K)
  pub parts : ts ≡ token ∷ rest
  pub is : token.word ≡ Symbol symbol

-- the word of the first token passes a test
pub record BeginsSo {S K : Type 0} (test : Word S K → Bool) (ts : List (Lexed S K)) : Type 0 where
  pub token : Lexed S K
  pub rest : List (Lexed S K)
  pub parts : ts ≡ token ∷ rest
  pub is : test token.word ≡ true
