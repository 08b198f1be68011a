-- What the tokens of a text are, said of each by itself.
use Rattle.std.specs.Prelude.{◌≡◌, ◌≢◌, ℕ, ◌+◌, ◌-◌, ◌^◌, ◌<◌, ◌≤◌, ◌⊎◌, List, [], ◌∷◌, length, Bool, true, false, nat_eq, All, Contains, take, drop, codes}
use Rattle.std.specs.List.{starts_with, AllPass}
use Rattle.lexing.specs.declared.token.Token.{Token}
use Rattle.lexing.specs.declared.token.Kind.{Kind}
use Rattle.lexing.specs.declared.token.Kind.TheVariants.{Name, Reserved, Number, Sign, Bad}
use Rattle.lexing.specs.Bytes.{is_blank, is_digit, is_hex_digit, is_letter, is_name_byte, is_comment_byte, begins_with}
use Rattle.lexing.specs.Numbers.{number_value}
use Rattle.lexing.specs.Table.{Lexicon, is_reserved}

-- the first n bytes are the longest run of bytes of the class p
pub record IsRun (p : ℕ → Bool) (n : ℕ) (bytes : List ℕ) : Type 0 where
  pub within : n ≤ length bytes
  pub all : AllPass p (take n bytes)
  pub ends : begins_with p (drop n bytes) ≡ false

-- a name or a reserved word of n bytes comes first: a letter and the longest run of letters and
-- digits
pub record IsWord (n : ℕ) (bytes : List ℕ) : Type 0 where
  pub begins : begins_with is_letter bytes ≡ true
  pub run : IsRun is_name_byte n bytes
  pub short : n ≤ 32

-- the longest run of digits
pub record IsDecimal (n : ℕ) (bytes : List ℕ) : Type 0 where
  pub some : 1 ≤ n
  pub run : IsRun is_digit n bytes

-- `0x` and the longest run of hexadecimal digits
pub record IsHexadecimal (n : ℕ) (bytes : List ℕ) : Type 0 where
  pub marked : starts_with nat_eq bytes (codes "0x") ≡ true
  pub some : 3 ≤ n
  pub run : IsRun is_hex_digit (n - 2) (drop 2 bytes)

-- a number of n bytes comes first
pub record IsNumeral (n : ℕ) (bytes : List ℕ) : Type 0 where
  pub digits : IsDecimal n bytes ⊎ IsHexadecimal n bytes
  pub no_letter : begins_with is_letter (drop n bytes) ≡ false
  pub small : number_value (take n bytes) < 2 ^ 64

-- a sign of n bytes comes first, and no longer one
pub record IsSign (table : Lexicon) (n : ℕ) (bytes : List ℕ) : Type 0 where
  pub begins : begins_with is_name_byte bytes ≡ false
  pub some : 1 ≤ n
  pub within : n ≤ length bytes
  pub listed : Contains table.signs (take n bytes)
  pub longest : All (λ sign. starts_with nat_eq bytes sign ≡ true → length sign ≤ n) table.signs

-- no blank, comment or token comes first
pub record IsBad (table : Lexicon) (bytes : List ℕ) : Type 0 where
  pub no_blank : begins_with is_blank bytes ≡ false
  pub no_comment : starts_with nat_eq bytes (codes "//") ≡ false
  pub no_word : (n : ℕ) → IsWord n bytes → ⊥
  pub no_number : (n : ℕ) → IsNumeral n bytes → ⊥
  pub no_sign : (n : ℕ) → IsSign table n bytes → ⊥

-- a token of this kind and of n bytes comes first
abbrev pub IsKind : Lexicon → Kind → ℕ → List ℕ → Type 0
IsKind table Name n bytes = IsWord n bytes × (is_reserved table (take n bytes) ≡ false)
IsKind table Reserved n bytes = IsWord n bytes × (is_reserved table (take n bytes) ≡ true)
IsKind table Number n bytes = IsNumeral n bytes
IsKind table Sign n bytes = IsSign table n bytes
IsKind table Bad n bytes = (n ≡ 1) × IsBad table bytes

-- a token that stands at its place in the text
pub record IsTokenOf (table : Lexicon) (bytes : List ℕ) (token : Token) : Type 0 where
  pub some : 1 ≤ token.len
  pub within : token.at + token.len ≤ length bytes
  pub kind : IsKind table token.kind token.len (drop token.at bytes)

-- The first n bytes are blanks and comments. A comment goes on to the next LF, or to the end of the
-- text.
pub data IsSpacing : ℕ → List ℕ → Type 0 where
  nothing : (bytes : List ℕ) → IsSpacing 0 bytes
  blank : (n b : ℕ) (bs : List ℕ) → is_blank b ≡ true → IsSpacing n bs → IsSpacing (1 + n) (b ∷ bs)
  comment : (m n : ℕ) (bytes : List ℕ) → starts_with nat_eq bytes (codes "//") ≡ true →
      IsRun is_comment_byte m bytes → IsSpacing n (drop m bytes) → IsSpacing (m + n) bytes

-- from the place `from` on, each token behind the one before
abbrev pub AreInOrder : ℕ → List Token → Type 0
AreInOrder from [] = Unit {0}
AreInOrder from (token ∷ rest) = (from ≤ token.at) × AreInOrder (token.at + token.len) rest

-- From the place `from` on, nothing but spacing stands before, between and behind the tokens;
-- nothing is said of what stands behind a bad one.
abbrev pub AreSpaced : List ℕ → ℕ → List Token → Type 0
AreSpaced bytes from [] = IsSpacing (length bytes - from) (drop from bytes)
AreSpaced bytes from (token ∷ rest) =
    IsSpacing (token.at - from) (drop from bytes)
    × (token.kind ≢ Bad → AreSpaced bytes (token.at + token.len) rest)

-- none but the last is bad
abbrev pub IsBadLast : List Token → Type 0
IsBadLast [] = Unit {0}
IsBadLast (token ∷ rest) = (token.kind ≡ Bad → rest ≡ []) × IsBadLast rest

pub record AreTokens (table : Lexicon) (bytes : List ℕ) (tokens : List Token) : Type 0 where
  pub each : All (IsTokenOf table bytes) tokens
  pub in_order : AreInOrder 0 tokens
  pub spaced : AreSpaced bytes 0 tokens
  pub bad_last : IsBadLast tokens
