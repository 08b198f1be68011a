-- The words that tokens stand for.
use Rattle.std.specs.Prelude.{ℕ, List, Option, Some, None, map}
use Rattle.grammar.specs.declared.words.Lexed.{Lexed}
use Rattle.grammar.specs.declared.words.Word.{Word}
use Rattle.grammar.specs.declared.words.Word.TheVariants.{Name as Named, Number as Counts, Other}
use Rattle.lexing.specs.declared.token.Token.{Token}
use Rattle.lexing.specs.declared.token.Kind.{Kind}
use Rattle.lexing.specs.declared.token.Kind.TheVariants.{Name, Reserved, Number, Sign, Bad}
use Rattle.lexing.specs.Numbers.{written_number}
use Rattle.lexing.specs.Tokens.{token_bytes}

-- the first that is there
abbrev pub or_word : {A W : Type 0} → (A → W) → Option A → W → W
or_word make None next = next
or_word make (Some a) next = make a

-- the word that a text of some kind is, where the language tells what its reserved words and its
-- signs are
abbrev pub word_of : {S K : Type 0} → (List ℕ → Word S K) → (List ℕ → Word S K) → Kind → List ℕ → Word S K
word_of reserved sign Name text = Named text
word_of reserved sign Reserved text = reserved text
word_of reserved sign Number text = Counts (written_number text)
word_of reserved sign Sign text = sign text
word_of reserved sign Bad text = Other

-- a token of a text, with the word that it is
abbrev pub lexed_of : {S K : Type 0} → (List ℕ → Word S K) → (List ℕ → Word S K) → List ℕ → Token → Lexed S K
lexed_of reserved sign bytes token =
    record { word = word_of reserved sign token.kind (token_bytes bytes token); at = token.at }

-- all tokens of a text
abbrev pub lexed_all : {S K : Type 0} → (List ℕ → Word S K) → (List ℕ → Word S K) → List ℕ →
    List Token → List (Lexed S K)
lexed_all reserved sign bytes tokens = map (lexed_of reserved sign bytes) tokens
