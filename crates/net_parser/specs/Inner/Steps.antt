-- What the parts of the parser say of tokens.
use Rattle.std.specs.Prelude.{◌≡◌, ℕ, Bool, true, false, List, ◌∷◌, Option, None, Some, IsTrue, is_some}
use Rattle.grammar.specs.Reading.{head}
use Rattle.net_model.specs.declared.words.ItemWord.{ItemWord}
use Rattle.net_model.specs.declared.words.Operator.{Operator}
use Rattle.net_model.specs.Editions.{Lexed, Word, added_by}
use Rattle.grammar.specs.declared.words.Word.TheVariants.{Name, Number, Symbol as Shows, Key as Keyed}
use Rattle.net_model.specs.declared.words.Key.TheVariants.{Item, Operator as Operates}
use Rattle.net_model.specs.declared.words.Symbol.TheVariants.{Dot, Colon, Comma, LeftBracket, When, Else, Version}

-- ---- what may go on behind a text

abbrev pub dot_word : Word → Bool
dot_word (Shows Dot) = true
dot_word _ = false

abbrev pub after_field : Lexed → Bool
after_field t = dot_word t.word

abbrev pub colon_word : Word → Bool
colon_word (Shows Colon) = true
colon_word _ = false

abbrev pub after_range : Lexed → Bool
after_range t = colon_word t.word

-- behind an expression
abbrev pub expr_word : Word → Bool
expr_word (Shows Dot) = true
expr_word (Shows LeftBracket) = true
expr_word _ = false

abbrev pub after_expr : Lexed → Bool
after_expr t = expr_word t.word

-- behind the numbers of a row, and what else stands with commas
abbrev pub comma_word : Word → Bool
comma_word (Shows Comma) = true
comma_word _ = false

abbrev pub after_list : Lexed → Bool
after_list t = comma_word t.word

-- behind the rows of a case
abbrev pub number_word : Word → Bool
number_word (Number n) = true
number_word _ = false

abbrev pub after_rows : Lexed → Bool
after_rows t = number_word t.word

-- behind rows and a rest
abbrev pub arms_word : Word → Bool
arms_word (Number n) = true
arms_word (Shows Else) = true
arms_word _ = false

abbrev pub after_arms : Lexed → Bool
after_arms t = arms_word t.word

-- ---- what the first token is

pub record OpensOperator (operator : Operator) (ts rest : List Lexed) : Type 0 where
  pub token : Lexed
  pub parts : ts ≡ token ∷ rest
  pub is : token.word ≡ Keyed (Operates operator)

pub record HasNoOperator (ts : List Lexed) : Type 0 where
  pub never_so : (t : Lexed) → head ts ≡ Some t → (operator : Operator) → t.word ≡ Keyed (Operates operator) → ⊥

pub record OpensNumber (number : ℕ) (ts rest : List Lexed) : Type 0 where
  pub token : Lexed
  pub parts : ts ≡ token ∷ rest
  pub is : token.word ≡ Number number

pub record HasNoNumber (ts : List Lexed) : Type 0 where
  pub never_so : (t : Lexed) → head ts ≡ Some t → (number : ℕ) → t.word ≡ Number number → ⊥

-- behind an optional enable
abbrev pub when_word : Word → Bool
when_word (Shows When) = true
when_word w = expr_word w

abbrev pub after_when : Lexed → Bool
after_when t = when_word t.word

-- behind drivers: what begins an expression
abbrev pub first_word : Word → Bool
first_word (Name n) = true
first_word (Number n) = true
first_word (Keyed (Operates o)) = true
first_word _ = false

abbrev pub after_drivers : Lexed → Bool
after_drivers t = first_word t.word

-- behind equations
abbrev pub name_word : Word → Bool
name_word (Name n) = true
name_word _ = false

abbrev pub after_equations : Lexed → Bool
after_equations t = name_word t.word

-- behind links
abbrev pub link_word : Word → Bool
link_word (Name n) = true
link_word (Shows Comma) = true
link_word w = expr_word w

abbrev pub after_links : Lexed → Bool
after_links t = link_word t.word

-- behind items
abbrev pub item_word : Word → Bool
item_word (Keyed (Item i)) = true
item_word _ = false

abbrev pub after_items : Lexed → Bool
after_items t = item_word t.word

pub record OpensItem (word : ItemWord) (ts rest : List Lexed) : Type 0 where
  pub token : Lexed
  pub parts : ts ≡ token ∷ rest
  pub is : token.word ≡ Keyed (Item word)

pub record HasNoItem (ts : List Lexed) : Type 0 where
  pub never_so : (t : Lexed) → head ts ≡ Some t → (word : ItemWord) → t.word ≡ Keyed (Item word) → ⊥

-- behind an edition that may be there
abbrev pub version_word : Word → Bool
version_word (Shows Version) = true
version_word _ = false

abbrev pub after_head : Lexed → Bool
after_head t = version_word t.word

abbrev pub IsHeadNumber : Option ℕ → Type 0
IsHeadNumber None = Unit {0}
IsHeadNumber (Some edition) = IsTrue (is_some (added_by edition))
