-- The tokens of a text, by going over it. `Laws` says the same of each place by itself: what a
-- token of each kind is, that tokens lie in order without overlap, that only blanks and comments
-- stand between them, and that a bad token, which ends the list, stands where no blank, comment,
-- word, number or sign begins.
use Rattle.std.specs.Prelude.{ℕ, zero, suc, ◌+◌, ◌-◌, ◌^◌, List, [], ◌∷◌, length, nat_lt, nat_le, nat_eq, ◌==◌, if◌then◌else◌, take_while, take, drop, codes}
use Rattle.std.specs.List.{starts_with}
use Rattle.lexing.specs.declared.token.Token.{Token}
use Rattle.lexing.specs.declared.token.Kind.{Kind}
use Rattle.lexing.specs.declared.token.Kind.TheVariants.{Name, Reserved, Number, Sign, Bad}
use Rattle.lexing.specs.declared.piece.Piece.{Piece}
use Rattle.lexing.specs.declared.piece.Piece.TheVariants.{Blank, Whole, Wrong}
use Rattle.lexing.specs.Bytes.{is_blank, is_digit, is_letter, is_name_byte, is_comment_byte, begins_with}
use Rattle.lexing.specs.Numbers.{number_length, number_value}
use Rattle.lexing.specs.Table.{Lexicon, is_reserved, sign_length}

-- ---- what stands at a place

-- a run of letters and digits that begins with a letter: at most 32 bytes
abbrev pub name_piece : Lexicon → List ℕ → Piece
name_piece table name =
    if nat_le (length name) 32
    then (if is_reserved table name then Whole Reserved (length name) else Whole Name (length name))
    else Wrong

-- bytes that begin with a digit: a number below 2^64 that no letter follows
abbrev pub number_piece : List ℕ → Piece
number_piece bytes =
    if begins_with is_letter (drop (number_length bytes) bytes) then Wrong else (
    if nat_lt (number_value (take (number_length bytes) bytes)) (2 ^ 64)
    then Whole Number (number_length bytes)
    else Wrong)

-- the longest sign
abbrev pub sign_piece : Lexicon → List ℕ → Piece
sign_piece table bytes = if sign_length table bytes == 0 then Wrong else Whole Sign (sign_length table bytes)

-- What stands where a text goes on with these bytes, and how long it is: blanks or a comment, a
-- token, or nothing that a text may have.
unfoldable pub piece : Lexicon → List ℕ → Piece
piece table [] = Wrong
piece table (b ∷ bs) =
    if is_blank b then Blank 1 else (
    if starts_with nat_eq (b ∷ bs) (codes "//") then Blank (length (take_while is_comment_byte (b ∷ bs))) else (
    if is_letter b then name_piece table (take_while is_name_byte (b ∷ bs)) else (
    if is_digit b then number_piece (b ∷ bs) else (
    sign_piece table (b ∷ bs)))))

-- ---- the whole text

abbrev pub a_token : Kind → ℕ → ℕ → Token
a_token kind at len = record { kind = kind; at = at; len = len }

-- The tokens from the place `at` on, where the first `skip` bytes belong to the piece before. A bad
-- token ends them.
unfoldable pub tokens_from : Lexicon → ℕ → ℕ → List ℕ → List Token
tokens_from table at skip [] = []
tokens_from table at (suc skip) (b ∷ bs) = tokens_from table (at + 1) skip bs
tokens_from table at zero (b ∷ bs) = elim (piece table (b ∷ bs)) [
  | Blank n ↦ tokens_from table (at + 1) (n - 1) bs
  | Whole kind n ↦ a_token kind at n ∷ tokens_from table (at + 1) (n - 1) bs
  | Wrong ↦ a_token Bad at 1 ∷ []
]

-- the tokens of a text
abbrev pub tokens_of : Lexicon → List ℕ → List Token
tokens_of table bytes = tokens_from table 0 0 bytes

-- the bytes of a token, those that lie within the text
abbrev pub token_bytes : List ℕ → Token → List ℕ
token_bytes bytes token = take token.len (drop token.at bytes)
