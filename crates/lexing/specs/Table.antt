-- What languages differ in.
use Rattle.std.specs.Prelude.{ℕ, List, length, Bool, nat_eq, if◌then◌else◌, max}
use Rattle.std.specs.List.{starts_with, list_any, fold}
use Rattle.std.specs.Str.{bytes_eq}

pub record Lexicon : Type 0 where
  pub reserved : List (List ℕ)
  pub signs : List (List ℕ)

abbrev pub is_reserved : Lexicon → List ℕ → Bool
is_reserved table name = list_any (λ word. bytes_eq word name) table.reserved

-- the greatest length of a sign with which bytes begin, 0 if they begin with none
abbrev pub sign_length : Lexicon → List ℕ → ℕ
sign_length table bytes =
    fold (λ longest sign. if starts_with nat_eq bytes sign then max longest (length sign) else longest)
    0 table.signs
