-- What stands in a line: what stands before the first byte of a kind and behind it; a number is
-- decimal digits without leading zeros and lies below 2^64; a name is a letter or `_`, then
-- letters, digits and `_`, 32 bytes at most.
use Rattle.std.specs.Prelude.{ℕ, ◌+◌, ◌-◌, ◌*◌, ◌^◌, ◌==◌, ◌&&◌, not, nat_le, if◌then◌else◌, List, [], ◌∷◌, length, Bool, true, false, Option, Some, None, option_map}
use Rattle.std.specs.List.{list_all}
use Rattle.lexing.specs.Numbers.{below_2_64}
use Rattle.lexing.specs.Bytes.{is_letter, is_digit, is_name_byte, begins_with}

-- what stands before the first such byte, and behind it
abbrev pub longer_front : ℕ → List ℕ × List ℕ → List ℕ × List ℕ
longer_front b parts = (b ∷ parts.0, parts.1)

unfoldable pub parts_at : ℕ → List ℕ → Option (List ℕ × List ℕ)
parts_at mark [] = None
parts_at mark (b ∷ bs) = if b == mark then Some ([], bs) else option_map (longer_front b) (parts_at mark bs)

-- a step behind another: none, where there is none before
infixl 10 ◌>>=◌
abbrev pub ◌>>=◌ : {A B : Type 0} → Option A → (A → Option B) → Option B
None >>= f = None
(Some x) >>= f = f x

abbrev pub only_front : List ℕ × List ℕ → Option (List ℕ)
only_front parts = if length parts.1 == 0 then Some parts.0 else None

-- what stands before the LF, which is the last byte
unfoldable pub line_end : List ℕ → Option (List ℕ)
line_end text = parts_at 10 text >>= only_front

-- the value of decimal digits behind those of n
abbrev pub decimal_from : ℕ → List ℕ → ℕ
decimal_from n [] = n
decimal_from n (d ∷ ds) = decimal_from (10 * n + (d - 48)) ds

-- a digit or more, without a zero before another
abbrev pub is_canonical : List ℕ → Bool
is_canonical [] = false
is_canonical (d ∷ []) = true
is_canonical (d ∷ e ∷ ds) = not (d == 48)

abbrev pub are_digits : List ℕ → Bool
are_digits text = list_all is_digit text

-- the number below 2^64 that a text is, in decimal digits without leading zeros
unfoldable pub number_of : List ℕ → Option ℕ
number_of text = if is_canonical text && are_digits text then below_2_64 (decimal_from 0 text) else None

abbrev pub are_name_bytes : List ℕ → Bool
are_name_bytes text = list_all is_name_byte text

-- a name: a letter or `_`, then letters, digits and `_`, 32 bytes at most
unfoldable pub is_name : List ℕ → Bool
is_name text = begins_with is_letter text && nat_le (length text) 32 && are_name_bytes text
