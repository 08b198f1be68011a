-- Numbers as they are written.
use Rattle.std.specs.Prelude.{ℕ, ◌+◌, ◌-◌, ◌*◌, ◌^◌, List, [], ◌∷◌, length, Bool, Option, Some, None, nat_lt, nat_le, nat_eq, ◌&&◌, if◌then◌else◌, min, take_while, drop, codes}
use Rattle.std.specs.List.{starts_with}
use Rattle.lexing.specs.Bytes.{is_digit, is_hex_digit, begins_with}

-- the value of a hexadecimal digit of either case
abbrev pub digit_value : ℕ → ℕ
digit_value d = if is_digit d then d - 48 else (if nat_le 97 d then d - 97 + 10 else d - 65 + 10)

-- the value of digits, the highest first, behind those of n
abbrev pub value_from : ℕ → ℕ → List ℕ → ℕ
value_from base n [] = n
value_from base n (d ∷ ds) = value_from base (base * n + digit_value d) ds

-- `0x` and a hexadecimal digit come first
abbrev pub is_hexadecimal : List ℕ → Bool
is_hexadecimal bytes = starts_with nat_eq bytes (codes "0x") && begins_with is_hex_digit (drop 2 bytes)

-- The length of the number with which bytes begin: `0x` and the longest run of hexadecimal digits,
-- or else the longest run of decimal digits. Of `0x` without a digit, that is 1.
abbrev pub number_length : List ℕ → ℕ
number_length bytes =
    if is_hexadecimal bytes then 2 + length (take_while is_hex_digit (drop 2 bytes))
    else length (take_while is_digit bytes)

-- the value of a number as it is written
abbrev pub number_value : List ℕ → ℕ
number_value bytes = if is_hexadecimal bytes then value_from 16 0 (drop 2 bytes) else value_from 10 0 bytes

-- the number that bytes stand for, whatever they are: of a number token it is the value
abbrev pub written_number : List ℕ → ℕ
written_number bytes = min (number_value bytes) (2 ^ 64 - 1)

-- a number below 2^64
abbrev pub below_2_64 : ℕ → Option ℕ
below_2_64 n = if nat_lt n (2 ^ 64) then Some n else None
